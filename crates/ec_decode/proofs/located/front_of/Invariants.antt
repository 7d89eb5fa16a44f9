use Rattle.std.proofs.Common.{length}
use Rattle.ec_decode.proofs.Places.{Passed}
use Rattle.ec_decode.proofs.located.front_of.Given as goal

abbrev pub invariant-loop-len : goal.invariant-loop-len
invariant-loop-len l = Passed l.area l.rest l.whole

abbrev pub decreases-loop-len : goal.decreases-loop-len
decreases-loop-len l = length l.rest
