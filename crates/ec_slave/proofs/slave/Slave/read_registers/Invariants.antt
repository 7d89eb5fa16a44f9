use Rattle.std.proofs.Common.{◌≡◌}
use Rattle.ec_slave.specs.Physical.{byte_read}
use Rattle.ec_slave.proofs.Memory.UpdatedAlong.{updated_along}
use Rattle.ec_slave.proofs.slave.Slave.read_registers.Given as goal

abbrev pub invariant-loop-i : goal.invariant-loop-i
invariant-loop-i l = l.bytes ≡ updated_along l.i 0 l.initial.bytes (byte_read l.self l.joining (record { from = l.from; bytes = l.initial.bytes }))
