use Rattle.ec_asking.proofs.Reading.{nobody_is_nothing, status_is_the_slaves}
use Rattle.ec_asking.proofs.laws.status_is_the_slaves.Goals as goal

pub returns-clause-one : goal.returns-clause-one
returns-clause-one c = status_is_the_slaves

pub returns-clause-none : goal.returns-clause-none
returns-clause-none c = nobody_is_nothing
