use Rattle.ec_bringup.proofs.StartUp.RegistersRead.{held, ready}
use Rattle.ec_bringup.proofs.laws.ready_is_read.Goals as goal

pub returns-clause-held : goal.returns-clause-held
returns-clause-held c = held

pub returns-clause-ready : goal.returns-clause-ready
returns-clause-ready c = ready
