use Rattle.ec_slave.proofs.Memory.RegistersAfterWrite.{logical_bit_by_bit, value_bit_by_bit}
use Rattle.ec_slave.proofs.laws.logical_bit_by_bit.Goals as goal

pub returns-clause-bits : goal.returns-clause-bits
returns-clause-bits c = logical_bit_by_bit

pub returns-clause-value : goal.returns-clause-value
returns-clause-value c = value_bit_by_bit
