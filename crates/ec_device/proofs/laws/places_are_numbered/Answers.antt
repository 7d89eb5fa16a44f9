use Rattle.ec_device.proofs.Naming.{numbered_law}
use Rattle.ec_device.proofs.laws.places_are_numbered.Goals as goal

pub returns : goal.returns
returns c = numbered_law
