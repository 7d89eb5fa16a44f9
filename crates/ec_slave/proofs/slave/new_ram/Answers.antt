use Rattle.std.proofs.Common.{rules}
use Rattle.ec_slave.proofs.slave.new_ram.Goals as goal

pub returns-clause-memory : goal.returns-clause-memory
returns-clause-memory c = search rules
