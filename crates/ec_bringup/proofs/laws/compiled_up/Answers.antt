use Rattle.ec_bringup.proofs.StartUp.ComesUpLaw.{compiled-up}
use Rattle.ec_bringup.proofs.laws.compiled_up.Goals as goal

pub returns : goal.returns
returns c = compiled-up
