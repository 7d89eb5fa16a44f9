use Rattle.std.proofs.Common.{◌≡◌, drop}
use Rattle.ec_found.specs.Differing.{are_same_from}
use Rattle.ec_found.proofs.against.agrees.Given as goal

abbrev pub invariant-loop-place : goal.invariant-loop-place
invariant-loop-place l = are_same_from l.table 0 l.found ≡ are_same_from l.table l.place (drop l.place l.found)
