use Rattle.std.proofs.Common.{◌≡◌, ◌++◌, drop}
use Rattle.ec_script.specs.Tasks.{blanked, echoed}
use Rattle.ec_script.proofs.TaskSteps.{texts}
use Rattle.ec_script.proofs.tasks.echo_text.Given as goal

-- the words so far, and those that follow, are all words
abbrev pub invariant-loop-word : goal.invariant-loop-word
invariant-loop-word l = l.text ++ blanked (texts (drop l.word-index l.rest)) ≡ echoed (texts l.words)
