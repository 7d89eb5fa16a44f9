use Rattle.ec_slave.proofs.Always.SlowAndLoud.{emergencies_first}
use Rattle.ec_slave.proofs.laws.emergencies_come_first.Goals as goal

pub returns : goal.returns
returns c = emergencies_first
