use Rattle.ec_link.proofs.OfTypes.{in_whole_bytes}
use Rattle.ec_link.proofs.laws.hardware_is_in_whole_bytes.Goals as goal

pub returns : goal.returns
returns c = in_whole_bytes
