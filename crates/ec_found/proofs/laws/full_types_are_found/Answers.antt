use Rattle.ec_found.proofs.FullTypes.{full_types_are_found, rows_exchange_once}
use Rattle.ec_found.proofs.laws.full_types_are_found.Goals as goal

pub returns-clause-types : goal.returns-clause-types
returns-clause-types c = full_types_are_found

pub returns-clause-rows : goal.returns-clause-rows
returns-clause-rows c = rows_exchange_once
