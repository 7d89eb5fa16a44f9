use Rattle.std.proofs.Common.{rules}
use Rattle.ec_device.proofs.slave_type.Pdo.is_within_limits.Goals as goal

pub returns-then-len-le-MAX_ENTRIES : goal.returns-then-len-le-MAX_ENTRIES
returns-then-len-le-MAX_ENTRIES c = search rules
