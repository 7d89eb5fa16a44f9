-- A logical datagram by its role (ETG.1000.4, LRD, LWR and LRW).
use Rattle.std.specs.Prelude.{ℕ, ◌+◌, ◌*◌, ◌^◌, ◌<◌, ◌&&◌, ◌≡◌, true, List, length, if◌then◌else◌}
use Rattle.std.specs.Int.{from_bool}
use Rattle.ec_bits.specs.Bits.{overlay}
use Rattle.ec_regs.specs.Memory.{ram_end}
use Rattle.ec_frame.specs.Datagram.{Datagram}
use Rattle.ec_fmmu.specs.Apart.{AreApart}
use Rattle.ec_fmmu.specs.Applied.{LogicalSpan}
use Rattle.ec_slave.specs.declared.role.Role.{Role}
use Rattle.ec_slave.specs.Roles.{is_reading, is_writing}
use Rattle.ec_slave.specs.State.{SlaveState, Met, MetBytes, fmmus}
use Rattle.ec_slave.specs.Logical.{logical_after, logical_met, meets_logically, read_bit, some_read, some_written}

-- what a write counts
abbrev pub weight : Role → ℕ
weight role = if is_reading role && is_writing role then 2 else 1

abbrev pub mapped_met : SlaveState → Role → LogicalSpan → List ℕ → MetBytes
mapped_met s role p bytes = logical_met (is_reading role) (is_writing role) (weight role) s p bytes

abbrev pub meets_mapped : Role → SlaveState → Datagram → Met
meets_mapped role s d = meets_logically (is_reading role) (is_writing role) (weight role) s d

-- nothing that is read of the memory is written there, so that a datagram that does both may write first
pub record MayWriteFirst (s : SlaveState) : Type 0 where
  pub room : length s.memory ≡ ram_end
  pub apart : AreApart (fmmus s)

-- the data of a logical datagram, whose first logical bit is `from`, are no longer than a frame holds
abbrev pub FitsFrame : ℕ → List ℕ → Type 0
FitsFrame from bytes = (from + 8 * length bytes < 2 ^ 64) × (length bytes < 2048)

-- What a datagram that reads and writes leaves of the slave and of its data, and what it counts: the data whose first logical
-- bit is `from`.
abbrev pub at_bits : ℕ → List ℕ → LogicalSpan
at_bits from bytes = record { from = from; bits = 8 * length bytes }

abbrev pub slave_exchanged : SlaveState → ℕ → List ℕ → SlaveState
slave_exchanged s from bytes = logical_after s true true (at_bits from bytes) bytes

abbrev pub bytes_exchanged : SlaveState → ℕ → List ℕ → List ℕ
bytes_exchanged s from bytes = overlay bytes (read_bit s.memory s.managers (fmmus s) (at_bits from bytes))

abbrev pub count_exchanged : SlaveState → ℕ → List ℕ → ℕ
count_exchanged s from bytes = from_bool (some_read s.memory s.managers (fmmus s) (at_bits from bytes))
    + 2 * from_bool (some_written s.managers (fmmus s) (at_bits from bytes) bytes)
