use Rattle.ec_slave.proofs.Memory.RegisterLaws.{registers_written, registers_read, managers_aside, registers_open}
use Rattle.ec_slave.proofs.Memory.RegisterResets.{managers_cleared, on_left, sii_left}
use Rattle.ec_slave.proofs.laws.registers_are_written.Goals as goal

pub returns-clause-written : goal.returns-clause-written
returns-clause-written c = registers_written

pub returns-clause-read : goal.returns-clause-read
returns-clause-read c = registers_read

pub returns-clause-aside : goal.returns-clause-aside
returns-clause-aside c = managers_aside

pub returns-clause-open : goal.returns-clause-open
returns-clause-open c = registers_open

pub returns-clause-cleared : goal.returns-clause-cleared
returns-clause-cleared c = managers_cleared

pub returns-clause-left : goal.returns-clause-left
returns-clause-left c = sii_left

pub returns-clause-fresh : goal.returns-clause-fresh
returns-clause-fresh c = on_left
