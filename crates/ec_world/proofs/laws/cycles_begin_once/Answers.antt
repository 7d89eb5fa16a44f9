use Rattle.ec_world.proofs.Runs.OnceLaws.{begun_once}
use Rattle.ec_world.proofs.laws.cycles_begin_once.Goals as goal

pub returns : goal.returns
returns c = begun_once
