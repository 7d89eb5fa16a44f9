use Rattle.std.proofs.Common.{◌≡◌, map, take}
use Rattle.ec_script.specs.Tasks.{step}
use Rattle.ec_script.proofs.tasks.steps_on.Given as goal

abbrev pub invariant-loop-action : goal.invariant-loop-action
invariant-loop-action l = l.tasks ≡ map (step l.number l.expects_no) (take l.action-index l.actions)
