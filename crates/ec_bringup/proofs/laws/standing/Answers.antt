use Rattle.ec_bringup.proofs.OneSlave.SlaveLaw.{stays-standing}
use Rattle.ec_bringup.proofs.laws.standing.Goals as goal

pub returns : goal.returns
returns c = stays-standing
