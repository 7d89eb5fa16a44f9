use Rattle.std.proofs.Common.{arith}
use Rattle.std.proofs.lemmas.Grind.{common_steps}
use Rattle.ec_link.specs.Layout.{joined}
use Rattle.ec_link.proofs.layout.Layout.join.Goals as goal

pub returns : goal.returns
unfolding joined
returns c = grind (arith, common_steps)
