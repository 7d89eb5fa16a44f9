use Rattle.ec_world.proofs.Cycles.QuietLaw.{quiet_law}
use Rattle.ec_world.proofs.laws.taken_cycles_were_quiet.Goals as goal

pub returns : goal.returns
returns c = quiet_law
