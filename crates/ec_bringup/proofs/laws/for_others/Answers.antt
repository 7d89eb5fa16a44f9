use Rattle.ec_bringup.proofs.OneSlave.SlaveLaw.{for-others}
use Rattle.ec_bringup.proofs.laws.for_others.Goals as goal

pub returns : goal.returns
returns c = for-others
