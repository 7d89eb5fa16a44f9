use Rattle.std.proofs.Common.{rules}
use Rattle.ec_bringup.proofs.switching.identities_of.Goals as goal

pub loop-slave-preserved : goal.loop-slave-preserved
loop-slave-preserved c = search rules
