use Rattle.ec_start.proofs.LawLemmas.{plans_stay}
use Rattle.ec_start.proofs.laws.plans_stay.Goals as goal

pub returns : goal.returns
returns c = plans_stay
