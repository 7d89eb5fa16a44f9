use Rattle.ec_slave.proofs.Always.OutputsFirst.{outputs_owed, outputs_stay_owed}
use Rattle.ec_slave.proofs.laws.outputs_come_first.Goals as goal

pub returns-clause-begin : goal.returns-clause-begin
returns-clause-begin c = outputs_owed

pub returns-clause-stay : goal.returns-clause-stay
returns-clause-stay c = outputs_stay_owed
