use Rattle.std.proofs.Common.{rules}
use Rattle.ec_dl.proofs.data_link.byte_stored.Goals as goal

pub returns-then-within : goal.returns-then-within
returns-then-within c = search rules
