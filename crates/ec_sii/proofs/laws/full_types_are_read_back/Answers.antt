use Rattle.ec_sii.proofs.ReadTypes.{types_law}
use Rattle.ec_sii.proofs.laws.full_types_are_read_back.Goals as goal

pub returns : goal.returns
returns c = types_law
