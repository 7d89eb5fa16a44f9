use Rattle.ec_bringup.proofs.StartUp.StartUpLaw.{start-up}
use Rattle.ec_bringup.proofs.laws.start_up.Goals as goal

pub returns : goal.returns
returns c = start-up
