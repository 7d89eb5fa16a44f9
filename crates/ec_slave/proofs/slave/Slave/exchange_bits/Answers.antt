use Rattle.ec_slave.proofs.slave.Slave.exchange_bits.Goals as goal

pub returns-then-may_write_first-clause-slave : goal.returns-then-may_write_first-clause-slave
returns-then-may_write_first-clause-slave c = c.write_and_read_bits.ensures.slave

pub returns-then-may_write_first-clause-bytes : goal.returns-then-may_write_first-clause-bytes
returns-then-may_write_first-clause-bytes c = c.write_and_read_bits.ensures.bytes

pub returns-then-may_write_first-clause-added : goal.returns-then-may_write_first-clause-added
returns-then-may_write_first-clause-added c = c.write_and_read_bits.ensures.added

pub returns-else-may_write_first-clause-slave : goal.returns-else-may_write_first-clause-slave
returns-else-may_write_first-clause-slave c = c.read_write_copied_bits.ensures.slave

pub returns-else-may_write_first-clause-bytes : goal.returns-else-may_write_first-clause-bytes
returns-else-may_write_first-clause-bytes c = c.read_write_copied_bits.ensures.bytes

pub returns-else-may_write_first-clause-added : goal.returns-else-may_write_first-clause-added
returns-else-may_write_first-clause-added c = c.read_write_copied_bits.ensures.added
