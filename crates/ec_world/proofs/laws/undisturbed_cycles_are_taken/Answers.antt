use Rattle.ec_world.proofs.Cycles.MissedLaws.{undisturbed_law}
use Rattle.ec_world.proofs.laws.undisturbed_cycles_are_taken.Goals as goal

pub returns : goal.returns
returns c = undisturbed_law
