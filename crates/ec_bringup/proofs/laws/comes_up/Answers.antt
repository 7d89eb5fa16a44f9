use Rattle.ec_bringup.proofs.StartUp.ComesUpLaw.{comes-up}
use Rattle.ec_bringup.proofs.laws.comes_up.Goals as goal

pub returns : goal.returns
returns c = comes-up
