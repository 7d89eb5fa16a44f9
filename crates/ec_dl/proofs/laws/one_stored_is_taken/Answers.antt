use Rattle.ec_dl.proofs.StoredRegisters.{one_taken}
use Rattle.ec_dl.proofs.laws.one_stored_is_taken.Goals as goal

pub returns : goal.returns
returns c = one_taken
