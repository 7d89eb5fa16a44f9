use Rattle.std.proofs.Common.{arith}
use Rattle.std.proofs.lemmas.Grind.{common_steps}
use Rattle.ec_link.proofs.plan.links_toward.Goals as goal

pub loop-link_run-preserved : goal.loop-link_run-preserved
loop-link_run-preserved c = grind (arith, common_steps)
