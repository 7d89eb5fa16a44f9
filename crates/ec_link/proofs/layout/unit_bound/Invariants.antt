use Rattle.std.proofs.Common.{take}
use Rattle.ec_link.specs.Limits.{IsUnitBound}
use Rattle.ec_link.proofs.layout.unit_bound.Given as goal

abbrev pub invariant-loop-size : goal.invariant-loop-size
invariant-loop-size l = IsUnitBound (take l.size-index l.sizes) l.bound
