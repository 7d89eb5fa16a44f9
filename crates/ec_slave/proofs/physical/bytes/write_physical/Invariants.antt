use Rattle.std.proofs.Common.{◌≡◌, ◌≤◌, ◌+◌, ◌-◌, length}
use Rattle.ec_bits.specs.Bits.{any_below, within}
use Rattle.ec_slave.specs.Physical.{may_write_byte}
use Rattle.ec_slave.proofs.Memory.UpdatedAlong.{updated_along}
use Rattle.ec_slave.proofs.Memory.WindowBytes.{kept_byte}
use Rattle.ec_slave.proofs.physical.bytes.write_physical.Given as goal

abbrev pub invariant-loop-done : goal.invariant-loop-done
invariant-loop-done l = record {
  inside : l.done ≤ length l.bytes;
  memory : l.memory ≡ updated_along l.done l.from l.fn.memory (kept_byte l.managers (record { from = l.from; bytes = l.bytes }));
  some : l.is_some ≡ any_below l.done (λ k. may_write_byte l.managers l.is_busy (within l.from (length l.bytes)) (l.from + k));
}

abbrev pub decreases-loop-done : goal.decreases-loop-done
decreases-loop-done l = length l.bytes - l.done
