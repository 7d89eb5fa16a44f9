-- What a datagram, physical or logical, does to the sync managers, and what it finds behind them.
use Rattle.std.specs.Prelude.{ℕ, ◌-◌, ◌*◌, ◌&&◌, List, Bool, true, if◌then◌else◌, Option, Some, None}
use Rattle.ec_bits.specs.Bits.{bit}
use Rattle.ec_sync.specs.SyncManager.{SyncManager, may_read, may_write, visible, ring_written, ring_read}
pub use Rattle.ec_exchange.specs.Access.{gets_at, is_read_by, is_ungoverned, is_written_by}
use Rattle.ec_slave.specs.State.{manager_at}
use Rattle.ec_sync.specs.Governing.{covers, in_first_buffer}

-- whether a byte under this governor, or under none, is read by an access that touches these bytes
abbrev pub reads_under : List SyncManager → (ℕ → Bool) → ℕ → Option ℕ → Bool
reads_under ms touched a None = true
reads_under ms touched a (Some n) = in_first_buffer (manager_at ms n) a && (covers touched (manager_at ms n) && may_read (manager_at ms n))

-- whether it is written so
abbrev pub writes_under : List SyncManager → (ℕ → Bool) → ℕ → Option ℕ → Bool
writes_under ms touched a None = true
writes_under ms touched a (Some n) = in_first_buffer (manager_at ms n) a && (covers touched (manager_at ms n) && may_write (manager_at ms n))

-- what a physical bit shows under this governor, or as it lies in the memory
abbrev pub visible_under : List ℕ → List SyncManager → ℕ → Option ℕ → Bool
visible_under memory ms q None = bit memory q
visible_under memory ms q (Some n) = bit (visible (manager_at ms n)) (q - 8 * (manager_at ms n).settings.start)

-- One manager after an access. It is written, if the access writes, gets at it and may; else read in the same way, which empties
-- a mailbox; else as it was. `value` is what a write leaves in a manager, by its start and its length in bytes.
abbrev pub manager_after : Bool → Bool → (ℕ → Bool) → (ℕ → Bool) → (ℕ → Bool) → (ℕ → ℕ → List ℕ) → SyncManager → SyncManager
manager_after reads writes read_touches write_touches own value m =
    if writes && is_written_by write_touches own m then ring_written m (value m.settings.start m.settings.length)
    else (if reads && is_read_by read_touches own m then ring_read m else m)
