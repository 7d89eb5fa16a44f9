use Rattle.std.proofs.Common.{take}
use Rattle.ec_link.specs.Limits.{AreUsedUnits}
use Rattle.ec_link.proofs.layout.used_units.Given as goal

abbrev pub invariant-loop-size : goal.invariant-loop-size
invariant-loop-size l = AreUsedUnits (take l.size-index l.sizes) l.used
