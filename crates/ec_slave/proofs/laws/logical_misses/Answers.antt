use Rattle.ec_slave.proofs.LogicalAccess.MissesLaw.{misses}
use Rattle.ec_slave.proofs.laws.logical_misses.Goals as goal

pub returns : goal.returns
returns c = misses
