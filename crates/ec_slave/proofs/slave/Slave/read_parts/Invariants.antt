use Rattle.std.proofs.Common.{◌≡◌, ◌≤◌, ◌+◌, ◌-◌}
use Rattle.ec_bits.specs.Bits.{any_below, within}
use Rattle.ec_slave.specs.Physical.{byte_read, may_read_byte}
use Rattle.ec_slave.proofs.Memory.UpdatedAlong.{updated_along}
use Rattle.ec_slave.proofs.slave.Slave.read_parts.Given as goal

abbrev pub invariant-loop-done : goal.invariant-loop-done
invariant-loop-done l = record {
  inside : l.done ≤ l.len;
  bytes : l.bytes ≡ updated_along l.done 0 l.fn.bytes (byte_read l.self l.joining (record { from = l.from; bytes = l.fn.bytes }));
  some : l.is_some ≡ any_below l.done (λ k. may_read_byte l.self.managers (within l.from l.len) (l.from + k));
}

abbrev pub decreases-loop-done : goal.decreases-loop-done
decreases-loop-done l = l.len - l.done
