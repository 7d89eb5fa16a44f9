use Rattle.ec_link.proofs.laws.plans_are_usable.Goals as goal
use Rattle.ec_link.proofs.UsableLaws.{plan_usable}

pub returns : goal.returns
returns c = plan_usable
