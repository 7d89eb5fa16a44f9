use Rattle.ec_bringup.proofs.OneSlave.AgainLaw.{again}
use Rattle.ec_bringup.proofs.laws.again.Goals as goal

pub returns : goal.returns
returns c = again
