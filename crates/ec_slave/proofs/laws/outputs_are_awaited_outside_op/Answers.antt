use Rattle.ec_slave.proofs.Always.HardwareLaws.{stays_outside}
use Rattle.ec_slave.proofs.laws.outputs_are_awaited_outside_op.Goals as goal

pub returns-clause-stay : goal.returns-clause-stay
returns-clause-stay c = stays_outside
