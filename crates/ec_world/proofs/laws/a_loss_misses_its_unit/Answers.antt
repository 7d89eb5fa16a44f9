use Rattle.ec_world.proofs.Cycles.MissedLaws.{loss_law}
use Rattle.ec_world.proofs.laws.a_loss_misses_its_unit.Goals as goal

pub returns : goal.returns
returns c = loss_law
