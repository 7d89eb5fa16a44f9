use Rattle.std.proofs.Common.{rules}
use Rattle.ec_exchange.proofs.copies.get_inputs.Goals as goal

pub returns : goal.returns
returns c = search rules
