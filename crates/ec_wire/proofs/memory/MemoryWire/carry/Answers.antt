use Rattle.std.proofs.Common.{rules}
use Rattle.ec_wire.proofs.memory.MemoryWire.carry.Goals as goal

pub returns-clause-carried : goal.returns-clause-carried
returns-clause-carried c = search rules
