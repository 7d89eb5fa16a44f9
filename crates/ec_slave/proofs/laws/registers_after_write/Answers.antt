use Rattle.ec_slave.proofs.Memory.RegistersAfterWrite.{registers_after_write, managers_after_write}
use Rattle.ec_slave.proofs.laws.registers_after_write.Goals as goal

pub returns-clause-registers : goal.returns-clause-registers
returns-clause-registers c = registers_after_write

pub returns-clause-managers : goal.returns-clause-managers
returns-clause-managers c = managers_after_write
