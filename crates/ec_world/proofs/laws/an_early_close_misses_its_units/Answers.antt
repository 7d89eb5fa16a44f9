use Rattle.ec_world.proofs.Cycles.MissedLaws.{early_law}
use Rattle.ec_world.proofs.laws.an_early_close_misses_its_units.Goals as goal

pub returns : goal.returns
returns c = early_law
