use Rattle.std.proofs.Common.{rules}
use Rattle.ec_annotate.proofs.carried.process.is_of.Goals as goal

pub returns-then-split : goal.returns-then-split
returns-then-split c = search rules

pub returns-after-part-2 : goal.returns-after-part-2
returns-after-part-2 c = search rules
