use Rattle.ec_world.proofs.Runs.WordLaw.{word_law}
use Rattle.ec_world.proofs.laws.reports_say_what_slaves_said.Goals as goal

pub returns : goal.returns
returns c = word_law
