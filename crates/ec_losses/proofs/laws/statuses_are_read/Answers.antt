use Rattle.ec_losses.proofs.Statuses.{statuses_are_read}
use Rattle.ec_losses.proofs.laws.statuses_are_read.Goals as goal

pub returns : goal.returns
returns c = statuses_are_read
