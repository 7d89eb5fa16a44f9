use Rattle.ec_start.proofs.Assigned.{startable_is_taken}
use Rattle.ec_start.proofs.laws.startables_are_taken.Goals as goal

pub returns : goal.returns
returns c = startable_is_taken
