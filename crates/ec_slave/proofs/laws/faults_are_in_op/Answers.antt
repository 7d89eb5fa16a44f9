use Rattle.ec_slave.proofs.Commands.CommandLaws.{faults, by_bytes}
use Rattle.ec_slave.proofs.laws.faults_are_in_op.Goals as goal

pub returns-clause-faults : goal.returns-clause-faults
returns-clause-faults c = faults

pub returns-clause-applications : goal.returns-clause-applications
returns-clause-applications c = by_bytes
