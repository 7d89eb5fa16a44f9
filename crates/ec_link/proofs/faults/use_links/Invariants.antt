use Rattle.std.proofs.Common.{take}
use Rattle.ec_link.specs.VariableUse.{AreUsed}
use Rattle.ec_link.proofs.faults.use_links.Given as goal

abbrev pub invariant-loop-link : goal.invariant-loop-link
invariant-loop-link l = AreUsed l.table (take l.link-index l.table.links) l.uses
