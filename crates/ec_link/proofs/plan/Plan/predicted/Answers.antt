use Rattle.std.proofs.Common.{arith}
use Rattle.ec_link.proofs.Shares.{share_steps}
use Rattle.ec_link.proofs.CounterLaws.{predicted_is}
use Rattle.ec_link.proofs.plan.Plan.predicted.Goals as goal

pub returns-else-parts-part-clause-value : goal.returns-else-parts-part-clause-value
returns-else-parts-part-clause-value c = grind (arith, share_steps, predicted_is)

pub returns-else-parts-part-clause-shares : goal.returns-else-parts-part-clause-shares
returns-else-parts-part-clause-shares c = grind (arith, share_steps, predicted_is)
