use Rattle.std.proofs.Common.{◌≡◌, length, take}
use Rattle.cmd_loop.specs.Looping.{outputs_put}
use Rattle.cmd_loop.proofs.looping.set_outputs.Given as goal

abbrev pub invariant-loop-variable : goal.invariant-loop-variable
invariant-loop-variable l = record {
  outputs : l.master ≡ record l.initial.master { outputs = outputs_put l.number l.initial.master.outputs (take l.variable l.plan.variables) };
  end : l.variable-end ≡ length l.plan.variables;
}
