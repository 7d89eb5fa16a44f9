use Rattle.std.proofs.Common.{◌≤◌}
use Rattle.ec_link.specs.Plan.{plan_of}
use Rattle.cmd_loop.specs.Looping.{CanCycle}
use Rattle.cmd_loop.proofs.LoopLemmas.{AreReported}
use Rattle.cmd_loop.proofs.looping.print_cycles.Given as goal

abbrev pub invariant-loop-cycle : goal.invariant-loop-cycle
invariant-loop-cycle g l = record {
  can : CanCycle (plan_of l.machine) l.master;
  printed : AreReported l.machine l.initial.master (g.W.Wire.state l.initial.wire) l.master (g.W.Wire.state l.wire) l.initial.output l.output l.cycle;
  within : l.cycle ≤ l.cycles;
}
