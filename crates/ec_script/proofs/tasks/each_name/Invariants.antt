use Rattle.std.proofs.Common.{◌≡◌, drop}
use Rattle.ec_script.specs.Tasks.{each_name}
use Rattle.ec_script.proofs.TaskSteps.{behind, texts}
use Rattle.ec_script.proofs.tasks.each_name.Given as goal

-- the actions so far, and those of the names that follow, are those of all
abbrev pub invariant-loop-name : goal.invariant-loop-name
invariant-loop-name l = behind l.actions (each_name l.table l.verb (texts (drop l.name-index l.names))) ≡ each_name l.table l.verb (texts l.names)
