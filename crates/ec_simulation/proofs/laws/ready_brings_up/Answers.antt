use Rattle.ec_simulation.proofs.Readying.{ready_law}
use Rattle.ec_simulation.proofs.laws.ready_brings_up.Goals as goal

pub returns : goal.returns
returns c = ready_law
