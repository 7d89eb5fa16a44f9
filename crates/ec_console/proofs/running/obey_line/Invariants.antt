use Rattle.std.proofs.Common.{◌≡◌}
use Rattle.ec_script.specs.Scripts.{rounds}
use Rattle.ec_console.proofs.SayLemmas.{HasSaid}
use Rattle.ec_console.proofs.running.obey_line.Given as goal

-- its tasks are done so many times
abbrev pub invariant-loop : goal.invariant-loop
invariant-loop g l = record {
  said : HasSaid g.T.Target.says l.initial.target (rounds l.counter l.line.tasks) l.target l.unmet l.initial.output l.output;
  table : g.T.Target.table l.target ≡ g.T.Target.table l.initial.target;
}
