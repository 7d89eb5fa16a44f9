use Rattle.ec_coe.proofs.Devices.{parameters_kept}
use Rattle.ec_coe.proofs.laws.parameters_are_kept.Goals as goal

pub returns : goal.returns
returns c = parameters_kept
