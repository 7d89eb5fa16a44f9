use Rattle.ec_simulation.proofs.Cycling.{taken_text_law}
use Rattle.ec_simulation.proofs.laws.taken_is_printed.Goals as goal

pub returns : goal.returns
returns c = taken_text_law
