use Rattle.std.proofs.Common.{rules}
use Rattle.ec_bits.proofs.is_short.Goals as goal

pub returns-else-bits-eq64 : goal.returns-else-bits-eq64
returns-else-bits-eq64 c = search rules
