use Rattle.std.proofs.Common.{◌≡◌, take}
use Rattle.ec_found.proofs.same.have_same_parameters.Given as goal

abbrev pub invariant-loop-place : goal.invariant-loop-place
invariant-loop-place l = take l.place l.one ≡ take l.place l.other
