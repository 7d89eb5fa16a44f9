use Rattle.ec_world.proofs.Runs.OnceLaws.{passed_once}
use Rattle.ec_world.proofs.laws.frames_pass_once.Goals as goal

pub returns : goal.returns
returns c = passed_once
