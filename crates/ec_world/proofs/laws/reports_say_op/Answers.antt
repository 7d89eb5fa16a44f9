use Rattle.ec_world.proofs.Runs.WordLaw.{op_word_law}
use Rattle.ec_world.proofs.laws.reports_say_op.Goals as goal

pub returns : goal.returns
returns c = op_word_law
