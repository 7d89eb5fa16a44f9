use Rattle.std.proofs.Common.{rules}
use Rattle.ec_exchange.proofs.holding.spans.Goals as goal

pub returns-then-from-mapped-2 : goal.returns-then-from-mapped-2
returns-then-from-mapped-2 c = search rules
