use Rattle.ec_bringup.proofs.OneSlave.SlaveLaw.{gone-is-silent}
use Rattle.ec_bringup.proofs.laws.gone.Goals as goal

pub returns : goal.returns
returns c = gone-is-silent
