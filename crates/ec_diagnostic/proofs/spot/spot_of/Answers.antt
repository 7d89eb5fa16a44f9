use Rattle.std.proofs.Common.{arith}
use Rattle.std.proofs.lemmas.Grind.{common_steps}
use Rattle.ec_diagnostic.proofs.Lying.{lies}
use Rattle.ec_diagnostic.proofs.spot.spot_of.Goals as goal

pub returns-clause-exact : goal.returns-clause-exact
returns-clause-exact c = grind (arith, common_steps)

pub returns-clause-lies : goal.returns-clause-lies
returns-clause-lies c = grind (arith, lies)
