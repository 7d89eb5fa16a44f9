use Rattle.ec_slave.proofs.Memory.RegisterLaws.{shows_itself}
use Rattle.ec_slave.proofs.laws.slaves_show_themselves.Goals as goal

pub returns : goal.returns
returns c = shows_itself
