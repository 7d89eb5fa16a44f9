use Rattle.ec_bringup.proofs.OneSlave.DevicesLaw.{stays}
use Rattle.ec_bringup.proofs.laws.devices_stay_devices.Goals as goal

pub returns : goal.returns
returns c = stays
