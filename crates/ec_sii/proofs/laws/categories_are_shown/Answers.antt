use Rattle.ec_sii.proofs.Area.{categories_law}
use Rattle.ec_sii.proofs.laws.categories_are_shown.Goals as goal

pub returns : goal.returns
returns c = categories_law
