use Rattle.ec_bringup.proofs.OneSlave.DevicesLaw.{switched_on}
use Rattle.ec_bringup.proofs.OneSlave.SlavesOfLaw.{of-types, slaves_of, with-types}
use Rattle.ec_bringup.proofs.laws.switched_on_slaves_are_devices.Goals as goal

pub returns-clause-one : goal.returns-clause-one
returns-clause-one c = switched_on

pub returns-clause-identities : goal.returns-clause-identities
returns-clause-identities c = of-types

pub returns-clause-typed : goal.returns-clause-typed
returns-clause-typed c = with-types

pub returns-clause-of_table : goal.returns-clause-of_table
returns-clause-of_table c = slaves_of
