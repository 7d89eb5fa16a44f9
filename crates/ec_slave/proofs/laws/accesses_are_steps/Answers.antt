use Rattle.ec_slave.proofs.Always.ManagersGoByRuns.{accesses_are_steps}
use Rattle.ec_slave.proofs.laws.accesses_are_steps.Goals as goal

pub returns : goal.returns
returns c = accesses_are_steps
