use Rattle.ec_slave.proofs.AppAccess.ApplicationsGoWhole.{go_whole, few_inputs}
use Rattle.ec_slave.proofs.laws.applications_go_whole.Goals as goal

pub returns-clause-whole : goal.returns-clause-whole
returns-clause-whole c = go_whole

pub returns-clause-few : goal.returns-clause-few
returns-clause-few c = few_inputs
