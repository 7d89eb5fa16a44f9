use Rattle.ec_coe.proofs.Devices.{first_sizes}
use Rattle.ec_coe.proofs.laws.first_values_have_sizes.Goals as goal

pub returns : goal.returns
returns c = first_sizes
