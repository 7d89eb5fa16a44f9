use Rattle.ec_slave.proofs.LogicalAccess.OutputsPublished.{mapped_kept}
use Rattle.ec_slave.proofs.laws.mapped_kept.Goals as goal

pub returns : goal.returns
returns c = mapped_kept
