use Rattle.ec_world.proofs.Runs.OrderLaw.{order_law}
use Rattle.ec_world.proofs.laws.frames_keep_their_order.Goals as goal

pub returns : goal.returns
returns c = order_law
