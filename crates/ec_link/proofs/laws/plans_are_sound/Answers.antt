use Rattle.ec_link.proofs.laws.plans_are_sound.Goals as goal
use Rattle.ec_link.proofs.Soundness.{plan_sound}

pub returns : goal.returns
returns c = plan_sound
