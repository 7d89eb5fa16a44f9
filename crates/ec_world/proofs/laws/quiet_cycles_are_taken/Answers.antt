use Rattle.ec_world.proofs.Cycles.TakenLaw.{taken_law}
use Rattle.ec_world.proofs.laws.quiet_cycles_are_taken.Goals as goal

pub returns : goal.returns
returns c = taken_law
