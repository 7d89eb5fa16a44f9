use Rattle.std.proofs.Common.{◌≡◌, take}
use Rattle.ec_console.proofs.SayLemmas.{HasSaid}
use Rattle.ec_console.proofs.running.obey_tasks.Given as goal

-- the tasks so far are done and printed
abbrev pub invariant-loop-task : goal.invariant-loop-task
invariant-loop-task g l = record {
  said : HasSaid g.T.Target.says l.initial.target (take l.task-index l.tasks) l.target l.unmet l.initial.output l.output;
  table : g.T.Target.table l.target ≡ g.T.Target.table l.initial.target;
}
