use Rattle.ec_slave.proofs.slave.Slave.read_physical.Goals as goal

pub returns-then-from-bytes-le-RAM_START-clause-bytes : goal.returns-then-from-bytes-le-RAM_START-clause-bytes
returns-then-from-bytes-le-RAM_START-clause-bytes c = c.read_registers.ensures.bytes

pub returns-then-from-bytes-le-RAM_START-clause-some : goal.returns-then-from-bytes-le-RAM_START-clause-some
returns-then-from-bytes-le-RAM_START-clause-some c = c.read_registers.ensures.some

pub returns-else-from-bytes-le-RAM_START-clause-bytes : goal.returns-else-from-bytes-le-RAM_START-clause-bytes
returns-else-from-bytes-le-RAM_START-clause-bytes c = c.read_parts.ensures.bytes

pub returns-else-from-bytes-le-RAM_START-clause-some : goal.returns-else-from-bytes-le-RAM_START-clause-some
returns-else-from-bytes-le-RAM_START-clause-some c = c.read_parts.ensures.some
