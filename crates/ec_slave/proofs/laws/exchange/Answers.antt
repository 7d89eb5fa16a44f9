use Rattle.ec_slave.proofs.LogicalAccess.ExchangeLaw.{exchange}
use Rattle.ec_slave.proofs.laws.exchange.Goals as goal

pub returns : goal.returns
returns c = exchange
