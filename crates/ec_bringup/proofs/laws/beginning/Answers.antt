use Rattle.ec_bringup.proofs.StartUp.BeginningLaw.{beginning}
use Rattle.ec_bringup.proofs.laws.beginning.Goals as goal

pub returns : goal.returns
returns c = beginning
