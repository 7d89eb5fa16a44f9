use Rattle.ec_slave.proofs.Always.MetIsSlave.{met_is_slave, power_on_is_slave}
use Rattle.ec_slave.proofs.laws.slaves_stay_slaves.Goals as goal

pub returns-clause-power_on : goal.returns-clause-power_on
returns-clause-power_on c = power_on_is_slave

pub returns-clause-met : goal.returns-clause-met
returns-clause-met c = met_is_slave
