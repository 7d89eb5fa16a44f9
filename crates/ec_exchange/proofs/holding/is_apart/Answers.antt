use Rattle.std.proofs.Common.{rules}
use Rattle.ec_exchange.proofs.holding.is_apart.Goals as goal

pub returns-clause-apart : goal.returns-clause-apart
returns-clause-apart c = search rules
