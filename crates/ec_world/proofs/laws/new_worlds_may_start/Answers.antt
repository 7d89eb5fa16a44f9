use Rattle.ec_world.proofs.StartUp.NewLaw.{new_law, machine_law}
use Rattle.ec_world.proofs.laws.new_worlds_may_start.Goals as goal

pub returns-clause-devices : goal.returns-clause-devices
returns-clause-devices c = new_law

pub returns-clause-machine : goal.returns-clause-machine
returns-clause-machine c = machine_law
