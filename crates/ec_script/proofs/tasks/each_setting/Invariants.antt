use Rattle.std.proofs.Common.{◌≡◌, ◌*◌, drop}
use Rattle.ec_script.specs.Tasks.{each_setting}
use Rattle.ec_script.proofs.TaskSteps.{behind, texts}
use Rattle.ec_script.proofs.tasks.each_setting.Given as goal

-- the settings so far, and those of the words that follow, are those of all
abbrev pub invariant-loop-pair : goal.invariant-loop-pair
invariant-loop-pair l = behind l.actions (each_setting l.table (texts (drop (2 * l.pair) l.words))) ≡ each_setting l.table (texts l.words)
