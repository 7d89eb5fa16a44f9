-- One slave and one logical datagram, bit by bit (ETG.1000.4, "Fieldbus memory management unit").
use Rattle.std.specs.Prelude.{ℕ, ◌+◌, ◌*◌, ◌/◌, ◌&&◌, List, [], ◌∷◌, ◌++◌, length, Bool, if◌then◌else◌, Option, Some, None, is_some, option_map, option_and_then}
use Rattle.std.specs.Int.{from_bool}
use Rattle.ec_bits.specs.Bits.{bit, overlay, zeros, any_below}
use Rattle.ec_regs.specs.declared.fmmu.FmmuSettings.{FmmuSettings}
use Rattle.ec_regs.specs.Memory.{ram_end}
use Rattle.ec_frame.specs.Datagram.{Datagram}
use Rattle.ec_sync.specs.SyncManager.{SyncManager}
use Rattle.ec_sync.specs.Governing.{governor}
use Rattle.ec_fmmu.specs.Sets.{target, readers}
use Rattle.ec_fmmu.specs.Applied.{LogicalSpan, touched_by_reading, touched_by_writing, data_bit_for}
use Rattle.ec_slave.specs.State.{SlaveState, Met, MetBytes, fmmus, with_memory, with_answer}
use Rattle.ec_slave.specs.Managers.{reads_under, writes_under, visible_under, is_ungoverned, manager_after}

abbrev pub span_of : Datagram → LogicalSpan
span_of d = record { from = 8 * d.address; bits = 8 * length d.data_bytes }

-- ---- reading

-- what the ring reads at a physical bit, if it may
abbrev pub readable_bit : List ℕ → List SyncManager → List FmmuSettings → LogicalSpan → ℕ → Option Bool
readable_bit memory ms fs p q =
    if reads_under ms (touched_by_reading fs p) (q / 8) (governor ms (q / 8))
    then Some (visible_under memory ms q (governor ms (q / 8)))
    else None

-- what data bit i becomes, if it is read
abbrev pub read_bit : List ℕ → List SyncManager → List FmmuSettings → LogicalSpan → ℕ → Option Bool
read_bit memory ms fs p i = option_and_then (readable_bit memory ms fs p) (target (readers fs) (p.from + i))

-- ---- writing

-- what the write set brings to a physical bit, whether it may be written or not
abbrev pub brought : List FmmuSettings → LogicalSpan → List ℕ → ℕ → Option Bool
brought fs p bytes q = option_map (bit bytes) (data_bit_for fs p q)

-- what a physical bit becomes, if it is written
abbrev pub written_bit : List SyncManager → List FmmuSettings → LogicalSpan → List ℕ → ℕ → Option Bool
written_bit ms fs p bytes q =
    if writes_under ms (touched_by_writing fs p) (q / 8) (governor ms (q / 8)) then brought fs p bytes q else None

-- what a memory bit becomes, if it is kept in the memory itself
abbrev pub plain_bit : List SyncManager → List FmmuSettings → LogicalSpan → List ℕ → ℕ → Option Bool
plain_bit ms fs p bytes q = if is_ungoverned ms (q / 8) then brought fs p bytes q else None

-- The value that a written manager gets, of its start and length: 0 in all untouched bits, and in the bytes that a
-- lower-numbered manager governs.
abbrev pub logical_value : List SyncManager → List FmmuSettings → LogicalSpan → List ℕ → ℕ → ℕ → List ℕ
logical_value lower fs p bytes start len = overlay (zeros len) (λ k. plain_bit lower fs p bytes (8 * start + k))

-- each manager after the datagram; `lower` are the managers before the first
abbrev pub logical_managers : List SyncManager → Bool → Bool → List FmmuSettings → LogicalSpan → List ℕ → List SyncManager → List SyncManager
logical_managers lower reading writing fs p bytes [] = []
logical_managers lower reading writing fs p bytes (m ∷ ms) =
    manager_after reading writing (touched_by_reading fs p) (touched_by_writing fs p) (is_ungoverned lower) (logical_value lower fs p bytes) m
    ∷ logical_managers (lower ++ m ∷ []) reading writing fs p bytes ms

-- ---- both

abbrev pub only_if : Bool → Option Bool → Option Bool
only_if b o = if b then o else None

abbrev pub some_read : List ℕ → List SyncManager → List FmmuSettings → LogicalSpan → Bool
some_read memory ms fs p = any_below p.bits (λ i. is_some (read_bit memory ms fs p i))

abbrev pub some_written : List SyncManager → List FmmuSettings → LogicalSpan → List ℕ → Bool
some_written ms fs p bytes = any_below (8 * ram_end) (λ q. is_some (written_bit ms fs p bytes q))

-- the whole slave after the data of a logical datagram that reads, writes or does both
abbrev pub logical_after : SlaveState → Bool → Bool → LogicalSpan → List ℕ → SlaveState
logical_after s reading writing p bytes = with_memory s
    (overlay s.memory (λ q. only_if writing (plain_bit s.managers (fmmus s) p bytes q)))
    (logical_managers [] reading writing (fmmus s) p bytes s.managers)

-- A slave meets the data of a logical datagram that reads, writes or does both. What a write takes is the data as received.
-- A read counts 1, a write `weight`.
abbrev pub logical_met : Bool → Bool → ℕ → SlaveState → LogicalSpan → List ℕ → MetBytes
logical_met reading writing weight s p bytes = record {
  slave = logical_after s reading writing p bytes;
  bytes = overlay bytes (λ i. only_if reading (read_bit s.memory s.managers (fmmus s) p i));
  added = from_bool (reading && some_read s.memory s.managers (fmmus s) p)
      + weight * from_bool (writing && some_written s.managers (fmmus s) p bytes);
}

-- and the whole datagram
unfoldable pub meets_logically : Bool → Bool → ℕ → SlaveState → Datagram → Met
meets_logically reading writing weight s d =
    let m = logical_met reading writing weight s (span_of d) d.data_bytes in
    record { slave = m.slave; datagram = with_answer d d.address m.bytes m.added }
