-- What a slave looks up on its way through a logical datagram, in place of all of its bits.
use Rattle.std.specs.Prelude.{ℕ, ◌+◌, ◌-◌, ◌*◌, ◌/◌, ◌^◌, ◌<◌, ◌≤◌, ◌&&◌, List, length, get_or, Bool, false, if◌then◌else◌, Option, Some, None, is_some}
use Rattle.ec_bits.specs.Bits.{any_below, bit, overlay}
use Rattle.ec_regs.specs.Memory.{ram_end}
use Rattle.ec_fmmu.specs.Apart.{run_visible}
use Rattle.ec_sync.specs.SyncManager.{SyncManager, visible}
use Rattle.ec_sync.specs.Governing.{governor, in_first_buffer}
use Rattle.ec_slave.specs.State.{manager_at}

-- what a physical bit shows that the manager governs; `readable` says whether the datagram gets at the manager
abbrev pub view_behind : SyncManager → Bool → ℕ → Option Bool
view_behind m readable q =
    if in_first_buffer m (q / 8) && readable then Some (bit (visible m) (q - 8 * m.settings.start)) else None

abbrev pub view_under : List ℕ → List SyncManager → List Bool → ℕ → Option ℕ → Option Bool
view_under memory ms readable q None = Some (bit memory q)
view_under memory ms readable q (Some n) = view_behind (manager_at ms n) (get_or readable n false) q

-- what a physical bit shows; `readable` has a truth value for each manager
abbrev pub view_bit : List ℕ → List SyncManager → List Bool → ℕ → Option Bool
view_bit memory ms readable q = view_under memory ms readable q (governor ms (q / 8))

-- `count` bits that begin at a physical bit lie in the memory, and as many data bits that begin at `to` in `len` bytes of data
abbrev pub HasRoom : ℕ → ℕ → ℕ → ℕ → Type 0
HasRoom physical to count len = (physical + count ≤ 8 * ram_end) × ((to + count ≤ 8 * len) × (to + count < 2 ^ 64))

-- the data after these bits were read into them
abbrev pub run_over : (ℕ → Option Bool) → ℕ → ℕ → ℕ → List ℕ → List ℕ
run_over visible physical to count bytes = overlay bytes (run_visible visible physical to count)

-- whether one of these bits shows something
abbrev pub some_of_run : (ℕ → Option Bool) → ℕ → ℕ → ℕ → List ℕ → Bool
some_of_run visible physical to count bytes = any_below (8 * length bytes) (λ i. is_some (run_visible visible physical to count i))
