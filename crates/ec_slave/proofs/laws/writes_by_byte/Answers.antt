use Rattle.ec_slave.proofs.Memory.WritesByByte.{writes_by_byte}
use Rattle.ec_slave.proofs.laws.writes_by_byte.Goals as goal

pub returns : goal.returns
returns c = writes_by_byte
