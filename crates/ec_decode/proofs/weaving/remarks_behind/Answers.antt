use Rattle.std.proofs.Common.{rules}
use Rattle.ec_decode.proofs.weaving.remarks_behind.Goals as goal

pub returns-then-index-parts : goal.returns-then-index-parts
returns-then-index-parts c = search rules
