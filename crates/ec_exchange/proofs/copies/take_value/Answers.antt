use Rattle.std.proofs.Common.{rules}
use Rattle.ec_exchange.proofs.copies.take_value.Goals as goal

pub returns : goal.returns
returns c = search rules
