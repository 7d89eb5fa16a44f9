use Rattle.ec_dl.proofs.StoredRegisters.{stored_are_six}
use Rattle.ec_dl.proofs.laws.stored_are_six.Goals as goal

pub returns : goal.returns
returns c = stored_are_six
