use Rattle.std.proofs.Common.{rules}
use Rattle.ec_slave.proofs.role.Encounter.of.Goals as goal

pub returns-else-lrw : goal.returns-else-lrw
returns-else-lrw c = search rules

pub returns-in-Aprd : goal.returns-in-Aprd
returns-in-Aprd c = search rules
