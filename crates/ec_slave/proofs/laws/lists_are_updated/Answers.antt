use Rattle.ec_slave.proofs.Memory.RegisterLaws.{updated_by_index, updated_whole}
use Rattle.ec_slave.proofs.laws.lists_are_updated.Goals as goal

pub returns-clause-by_place : goal.returns-clause-by_place
returns-clause-by_place c = updated_by_index

pub returns-clause-whole : goal.returns-clause-whole
returns-clause-whole c = updated_whole
