use Rattle.ec_losses.proofs.Losses.{losses_are_losses}
use Rattle.ec_losses.proofs.laws.losses_are_losses.Goals as goal

pub returns : goal.returns
returns c = losses_are_losses
