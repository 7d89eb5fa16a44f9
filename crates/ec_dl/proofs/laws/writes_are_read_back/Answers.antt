use Rattle.ec_dl.proofs.StoredRegisters.{read_back}
use Rattle.ec_dl.proofs.laws.writes_are_read_back.Goals as goal

pub returns : goal.returns
returns c = read_back
