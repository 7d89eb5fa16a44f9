use Rattle.ec_bringup.proofs.StartUp.PlainUpLaw.{plain_up}
use Rattle.ec_bringup.proofs.laws.comes_up_without_hardware.Goals as goal

pub returns : goal.returns
returns c = plain_up
