use Rattle.std.proofs.Common.{arith}
use Rattle.std.proofs.lemmas.Grind.{common_steps}
use Rattle.ec_fmmu.proofs.precedence.read_target.Goals as goal

pub returns-in-Some-clause-value : goal.returns-in-Some-clause-value
returns-in-Some-clause-value c = grind (arith, common_steps)

pub loop-fmmu-preserved : goal.loop-fmmu-preserved
loop-fmmu-preserved c = grind (arith, common_steps)
