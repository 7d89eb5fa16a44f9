use Rattle.std.proofs.Common.{◌≡◌, take, true}
use Rattle.std.specs.List.{list_all}
use Rattle.ec_script.specs.Scripts.{takes_task}
use Rattle.ec_console.proofs.running.takes_tasks.Given as goal

-- the tasks so far are taken
abbrev pub invariant-loop-task : goal.invariant-loop-task
invariant-loop-task g l = list_all (takes_task (g.T.Target.takes (g.T.Target.table l.target))) (take l.task-index l.tasks) ≡ true
