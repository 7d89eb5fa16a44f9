use Rattle.std.proofs.Common.{◌≡◌, drop, slice_get}
use Rattle.ec_start.specs.Feeding.{feeds_from}
use Rattle.ec_start.proofs.feeding.feed_at.Given as goal

abbrev pub invariant-loop-part : goal.invariant-loop-part
invariant-loop-part l = slice_get (feeds_from l.plan l.part (drop l.part l.parts)) l.left ≡ slice_get (feeds_from l.plan 0 l.parts) l.fn.number
