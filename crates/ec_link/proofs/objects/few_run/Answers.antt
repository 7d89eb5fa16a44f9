use Rattle.std.proofs.Common.{arith}
use Rattle.ec_link.proofs.Fews.{run_steps}
use Rattle.ec_link.proofs.objects.few_run.Goals as goal

pub loop-entry-preserved : goal.loop-entry-preserved
loop-entry-preserved c = grind (arith, run_steps)
