use Rattle.std.proofs.Common.{rules}
use Rattle.ec_exchange.proofs.holding.is_free.Goals as goal

pub returns-then-stop : goal.returns-then-stop
returns-then-stop c = search rules
