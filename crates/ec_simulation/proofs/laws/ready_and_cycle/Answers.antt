use Rattle.ec_simulation.proofs.Cycling.{machine_cycle_law, ready_cycle_law}
use Rattle.ec_simulation.proofs.laws.ready_and_cycle.Goals as goal

pub returns-clause-devices : goal.returns-clause-devices
returns-clause-devices c = ready_cycle_law

pub returns-clause-machine : goal.returns-clause-machine
returns-clause-machine c = machine_cycle_law
