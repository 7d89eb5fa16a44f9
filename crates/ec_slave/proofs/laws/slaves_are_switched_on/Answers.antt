use Rattle.ec_slave.proofs.Always.SlavesAreSwitchedOn.{switched_on, on_whole}
use Rattle.ec_slave.proofs.laws.slaves_are_switched_on.Goals as goal

pub returns-clause-known : goal.returns-clause-known
returns-clause-known c = switched_on

pub returns-clause-whole : goal.returns-clause-whole
returns-clause-whole c = on_whole
