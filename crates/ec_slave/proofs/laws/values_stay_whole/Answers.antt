use Rattle.ec_slave.proofs.Always.ValuesStayWhole.{stay_whole}
use Rattle.ec_slave.proofs.laws.values_stay_whole.Goals as goal

pub returns : goal.returns
returns c = stay_whole
