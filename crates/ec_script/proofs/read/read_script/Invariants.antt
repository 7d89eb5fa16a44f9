use Rattle.ec_script.specs.Scripts.{script_of}
use Rattle.ec_script.proofs.Drafting.{AreRead}
use Rattle.ec_script.proofs.read.read_script.Given as goal

-- the lines so far are read
abbrev pub invariant-loop-place : goal.invariant-loop-place
invariant-loop-place l = AreRead l.table l.line-items l.place l.draft (script_of l.table l.text)
