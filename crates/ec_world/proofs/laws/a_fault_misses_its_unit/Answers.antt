use Rattle.ec_world.proofs.Cycles.MissedLaws.{short_law}
use Rattle.ec_world.proofs.laws.a_fault_misses_its_unit.Goals as goal

pub returns : goal.returns
returns c = short_law
