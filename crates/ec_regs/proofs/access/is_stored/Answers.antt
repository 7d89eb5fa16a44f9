use Rattle.std.proofs.Common.{rules}
use Rattle.ec_regs.proofs.access.is_stored.Goals as goal

pub returns-else-within-4 : goal.returns-else-within-4
returns-else-within-4 c = search rules
