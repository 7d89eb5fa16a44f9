use Rattle.std.proofs.Common.{rules}
use Rattle.ec_annotate.proofs.carried.bits.is_carried.Goals as goal

pub returns-then-part_of-part : goal.returns-then-part_of-part
returns-then-part_of-part c = search rules
