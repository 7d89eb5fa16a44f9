-- Which manager has which byte of the memory (ETG.1000.4, "Sync manager"; that the lowest-numbered one governs is the
-- profile of the simulated slaves), and the bytes that read back.
use Rattle.std.specs.Prelude.{ℕ, ◌+◌, ◌-◌, ◌*◌, ◌/◌, ◌%◌, ◌==◌, ◌&&◌, List, Bool, if◌then◌else◌, nat_lt, slice_index, Option, is_some}
use Rattle.std.specs.Int.{from_bool}
use Rattle.std.specs.List.{position_from}
use Rattle.ec_bits.specs.Bits.{within}
use Rattle.ec_regs.specs.Managers.{is_set, span}
use Rattle.ec_sync.specs.SyncManager.{SyncManager, may_read, may_write, visible, ring_written, ring_read}

-- its span has the byte
abbrev pub governs : SyncManager → ℕ → Bool
governs m a = is_set m.settings && within m.settings.start (span m.settings) a

-- the number of the lowest manager whose span has the byte
abbrev pub governor : List SyncManager → ℕ → Option ℕ
governor ms a = position_from (λ m. governs m a) 0 ms

-- the access touches the manager's first and last byte
abbrev pub covers : (ℕ → Bool) → SyncManager → Bool
covers touched m = touched m.settings.start && touched (m.settings.start + m.settings.length - 1)

-- The manager after an access that writes. It is given the addresses that it touches, and what it leaves in bytes that begin at
-- an address. A denied access changes nothing.
abbrev pub after_ring_write : (ℕ → Bool) → (ℕ → ℕ → List ℕ) → SyncManager → SyncManager
after_ring_write touched written m =
    if covers touched m && may_write m then ring_written m (written m.settings.start m.settings.length) else m

-- and after one that reads
abbrev pub after_ring_read : (ℕ → Bool) → SyncManager → SyncManager
after_ring_read touched m = if covers touched m && may_read m then ring_read m else m

-- of a byte that it governs: the byte lies in its value, and not in a buffer behind it
abbrev pub in_first_buffer : SyncManager → ℕ → Bool
in_first_buffer m a = nat_lt a (m.settings.start + m.settings.length)

-- byte k of its eight, little-endian: start, length, control, status (bit 3: mailbox full), activate, the slave's side
-- (bit 0: deactivate)
abbrev pub manager_byte : SyncManager → ℕ → ℕ
manager_byte m k =
    if k == 0 then m.settings.start % 256
    else (if k == 1 then m.settings.start / 256
    else (if k == 2 then m.settings.length % 256
    else (if k == 3 then m.settings.length / 256
    else (if k == 4 then m.settings.control
    else (if k == 5 then 8 * from_bool (is_some m.mail)
    else (if k == 6 then m.settings.activate
    else from_bool m.locked))))))

-- the byte that a datagram reads at an address in its value
abbrev pub visible_byte : SyncManager → ℕ → ℕ
visible_byte m a = slice_index (visible m) (a - m.settings.start)
