-- What a datagram reads and writes in the memory of a slave, byte by byte (ETG.1000.4, "Physical memory", "Register
-- description", "Sync manager").
use Rattle.std.specs.Prelude.{ℕ, ◌+◌, ◌-◌, ◌*◌, ◌/◌, ◌%◌, ◌==◌, ◌&&◌, ◌||◌, not, List, [], ◌∷◌, ◌++◌, length, Bool, if◌then◌else◌, nat_le, nat_lt, slice_index, Option, Some, None, is_some, is_none, unwrap_or, bit_or, false}
use Rattle.std.specs.Int.{from_bool, to_le_bytes, w16}
use Rattle.ec_bits.specs.Bits.{any_below, within, zeros}
use Rattle.ec_device.specs.declared.hardware.Hardware.{Hardware}
use Rattle.ec_device.specs.Hardware.{fmmu_count, manager_number, manager_place}
use Rattle.ec_regs.specs.declared.manager.SyncManagerSettings.{SyncManagerSettings}
use Rattle.ec_regs.specs.Memory.{number_of_fmmus, number_of_sync_managers, ram_size, station_address, al_control, al_status, al_status_code, sii_control, fmmus, fmmu_start, sync_managers, manager_start, ram_start, ram_end, is_stored, takes_writes}
use Rattle.ec_regs.specs.Managers.{settings_of}
use Rattle.ec_regs.specs.Names.{shown_manager}
use Rattle.ec_sync.specs.SyncManager.{SyncManager, configured}
use Rattle.ec_sync.specs.Governing.{governor, manager_byte, visible_byte}
use Rattle.ec_al.specs.Al.{status_word, requesting}
use Rattle.ec_dl.specs.DataLink.{dl_byte, dl_takes, dl_written}
use Rattle.ec_sii.specs.Port.{sii_byte, written}
use Rattle.ec_slave.specs.declared.role.Role.{Role}
use Rattle.ec_slave.specs.Roles.{is_reading, is_writing, is_joining}
use Rattle.ec_slave.specs.State.{SlaveState, MetBytes, manager_at}
use Rattle.ec_slave.specs.Managers.{reads_under, writes_under, is_ungoverned, manager_after}

-- the bytes of a datagram, and the address of the first; byte k belongs to address from + k, and addresses don't wrap
pub record Window : Type 0 where
  pub from : ℕ
  pub bytes : List ℕ

abbrev pub touches : Window → ℕ → Bool
touches w a = within w.from (length w.bytes) a

-- what a datagram brings to an address
abbrev pub byte_from : Window → ℕ → Option ℕ
byte_from w a = if touches w a then Some (slice_index w.bytes (a - w.from)) else None

-- the numbers of a list, the first of which has place k: f has the new number of some places, and all others stay
abbrev pub updated_from : ℕ → List ℕ → (ℕ → Option ℕ) → List ℕ
updated_from k [] f = []
updated_from k (x ∷ xs) f = unwrap_or (f k) x ∷ updated_from (k + 1) xs f

abbrev pub updated : List ℕ → (ℕ → Option ℕ) → List ℕ
updated xs f = updated_from 0 xs f

-- ---- what an address reads

-- a manager with the settings that its registers have
abbrev pub as_shown : Option Hardware → SyncManager → SyncManager
as_shown o m = record m { settings = shown_manager o m.settings }

-- byte k of the eight of manager number n: they are those of the manager at its place
abbrev pub numbered_byte : Option Hardware → List SyncManager → ℕ → ℕ → ℕ
numbered_byte o ms n k = manager_byte (as_shown o (manager_at ms (manager_place o n))) k

-- How many FMMUs there are, 4 sync managers and 8 KiB of RAM; station address, AL control and FMMUs as datagrams stored them; the
-- AL status and its code; the SII port; the sync managers by number; the data link registers of a full slave. Every other
-- register reads 0.
unfoldable pub register_byte : SlaveState → ℕ → ℕ
register_byte s a =
    if a == number_of_fmmus then fmmu_count s.kind.hardware
    else (if a == number_of_sync_managers then 4
    else (if a == ram_size then 8
    else (if within station_address 2 a || (within al_control 2 a || within fmmus 64 a) then slice_index s.memory a
    else (if within al_status 2 a then slice_index (to_le_bytes w16 (status_word s.al)) (a - al_status)
    else (if within al_status_code 2 a then slice_index (to_le_bytes w16 s.al.code) (a - al_status_code)
    else (if within sii_control 10 a then sii_byte s.sii a
    else (if within sync_managers 32 a then numbered_byte s.kind.hardware s.managers ((a - sync_managers) / 8) (a % 8)
    else dl_byte s.link a)))))))

-- a byte of the RAM: what its governor shows there, or as it lies in the memory
abbrev pub ram_byte : List ℕ → List SyncManager → ℕ → Option ℕ → ℕ
ram_byte memory ms a None = slice_index memory a
ram_byte memory ms a (Some n) = visible_byte (manager_at ms n) a

unfoldable pub byte_at : SlaveState → ℕ → ℕ
byte_at s a = if nat_lt a ram_start then register_byte s a else ram_byte s.memory s.managers a (governor s.managers a)

-- ---- which bytes a datagram reads and writes, of those that it touches

-- every register, and the RAM if its governor lets it
unfoldable pub may_read_byte : List SyncManager → (ℕ → Bool) → ℕ → Bool
may_read_byte ms touched a = nat_lt a ram_start || (nat_lt a ram_end && reads_under ms touched a (governor ms a))

-- the registers that take writes, while the SII is busy or not, and the RAM if its governor lets it
unfoldable pub may_write_byte : List SyncManager → Bool → (ℕ → Bool) → ℕ → Bool
may_write_byte ms busy touched a =
    if nat_lt a ram_start then takes_writes busy a else nat_lt a ram_end && writes_under ms touched a (governor ms a)

-- the byte that data byte k becomes, if it is read
abbrev pub byte_read : SlaveState → Bool → Window → ℕ → Option ℕ
byte_read s joining w k =
    if may_read_byte s.managers (touches w) (w.from + k)
    then Some (if joining then bit_or (slice_index w.bytes k) (byte_at s (w.from + k)) else byte_at s (w.from + k))
    else None

-- ---- what a write leaves

-- a byte that is kept in the memory itself: a stored register, the managers' aside, or a byte of the RAM under no manager
unfoldable pub is_stored_at : List SyncManager → ℕ → Bool
is_stored_at ms a =
    if nat_lt a ram_start then is_stored a && not (within sync_managers 32 a) else nat_lt a ram_end && is_none (governor ms a)

-- a register of an FMMU that the slave lacks, which takes no write
abbrev pub is_missing : Option Hardware → ℕ → Bool
is_missing None a = false
is_missing (Some h) a = nat_le (fmmu_start h.fmmus) a && nat_lt a (fmmu_start 4)

-- whether the slave stores a register byte as it is written
abbrev pub keeps : Option Hardware → ℕ → Bool
keeps o a = if is_missing o a then false else is_stored a

-- what the memory itself is then
abbrev pub memory_written : Option Hardware → List SyncManager → Window → List ℕ → List ℕ
memory_written o ms w memory = updated memory (λ a. if is_missing o a then None else (if is_stored_at ms a then byte_from w a else None))

-- what a datagram stores in a register of a manager
abbrev pub setting_at : Window → ℕ → Option ℕ
setting_at w a = if is_stored a then byte_from w a else None

-- and in byte k of the eight of the manager at place n
abbrev pub setting_for : Option Hardware → Window → ℕ → ℕ → Option ℕ
setting_for o w n k = setting_at w (manager_start (manager_number o n) + k)

-- it writes one of the bytes 0..4 or 6
abbrev pub is_configured : Option Hardware → Window → ℕ → Bool
is_configured o w n = any_below 8 (λ k. is_some (setting_for o w n k))

abbrev pub settings_written : Option Hardware → Window → ℕ → SyncManager → SyncManagerSettings
settings_written o w n m = shown_manager o (settings_of (λ k. unwrap_or (setting_for o w n k) (manager_byte (as_shown o m) k)))

-- The value that a written manager gets, of its start and length: 0 in all bytes that the datagram doesn't touch, and in
-- those that a lower-numbered manager governs.
abbrev pub physical_value : List SyncManager → Window → ℕ → ℕ → List ℕ
physical_value lower w start len = updated (zeros len) (λ k. if is_ungoverned lower (start + k) then byte_from w (start + k) else None)

-- the manager at place n after the datagram, `lower` being those before it
unfoldable pub physical_manager : Option Hardware → List SyncManager → Bool → Bool → Window → ℕ → SyncManager → SyncManager
physical_manager o lower reads writes w n m =
    if writes && is_configured o w n then configured m (settings_written o w n m)
    else manager_after reads writes (touches w) (touches w) (is_ungoverned lower) (physical_value lower w) m

-- each manager after it, the first being at place n
abbrev pub physical_managers : Option Hardware → List SyncManager → Bool → Bool → Window → ℕ → List SyncManager → List SyncManager
physical_managers o lower reads writes w n [] = []
physical_managers o lower reads writes w n (m ∷ ms) =
    physical_manager o lower reads writes w n m ∷ physical_managers o (lower ++ m ∷ []) reads writes w (n + 1) ms

-- The whole slave after a datagram that reads, writes or does both. A write of the first byte of AL control marks an AL
-- request; the SII port takes the bytes of its control and its address, the data link registers those that they keep.
unfoldable pub physical_after : SlaveState → Bool → Bool → Window → SlaveState
physical_after s reads writes w = record s {
  memory = if writes then memory_written s.kind.hardware s.managers w s.memory else s.memory;
  managers = physical_managers s.kind.hardware [] reads writes w 0 s.managers;
  al = if writes && touches w al_control then requesting s.al else s.al;
  sii = if writes then written s.sii w.from w.bytes else s.sii;
  link = if writes then dl_written s.link w.from w.bytes else s.link;
}

-- ---- the meeting

-- one byte is enough for a read, or a write, to count
abbrev pub some_byte_read : List SyncManager → Window → Bool
some_byte_read ms w = any_below (length w.bytes) (λ k. may_read_byte ms (touches w) (w.from + k))

abbrev pub some_byte_written : Option Hardware → List SyncManager → Bool → Window → Bool
some_byte_written o ms busy w =
    any_below (length w.bytes) (λ k. if is_missing o (w.from + k) then false else may_write_byte ms busy (touches w) (w.from + k))

-- a write at the slave: of its memory, its managers or its SII port, or of a data link register of a full slave
abbrev pub is_written : SlaveState → Window → Bool
is_written s w = some_byte_written s.kind.hardware s.managers s.sii.busy w || dl_takes s.link w.from (length w.bytes)

-- A slave of a role meets the bytes of a datagram. The data get the memory as it was, and the memory the data as they were
-- received. A read counts 1; a write counts 1, or 2 in a datagram that also reads.
unfoldable pub physical_met : SlaveState → Role → Window → MetBytes
physical_met s role w = record {
  slave = physical_after s (is_reading role) (is_writing role) w;
  bytes = if is_reading role then updated w.bytes (byte_read s (is_joining role) w) else w.bytes;
  added = from_bool (is_reading role && some_byte_read s.managers w)
      + (if is_reading role then 2 else 1) * from_bool (is_writing role && is_written s w);
}
