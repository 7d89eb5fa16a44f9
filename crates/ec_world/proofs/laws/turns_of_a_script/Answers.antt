use Rattle.ec_world.proofs.StartUp.TurnLaw.{turn_law}
use Rattle.ec_world.proofs.laws.turns_of_a_script.Goals as goal

pub returns : goal.returns
returns c = turn_law
