use Rattle.ec_simulation.proofs.Cycling.{cycle_law}
use Rattle.ec_simulation.proofs.laws.cycle_is_taken.Goals as goal

pub returns : goal.returns
returns c = cycle_law
