-- Laws of the definitions of this crate.
use Rattle.std.specs.Prelude.{ℕ, ◌+◌, ◌-◌, ◌%◌, ◌≡◌, ◌≢◌, ◌<◌, ◌⊎◌, List, length, slice_index, Bool, true, false, if◌then◌else◌, bit_or, Option}
use Rattle.ec_device.specs.declared.hardware.Hardware.{Hardware}
use Rattle.ec_frame.specs.declared.command.Command.TheVariants.{Aprd, Apwr, Aprw, Fprd, Fpwr, Fprw}
use Rattle.ec_frame.specs.Datagram.{Datagram, IsDatagram, adp_of, ado_of}
use Rattle.ec_frame.specs.Fields.{with_adp}
use Rattle.ec_slave.specs.declared.role.Role.{Role}
use Rattle.ec_slave.specs.declared.role.Role.TheVariants.{Nothing, Read, Write, ReadWrite, OrRead, OrReadWrite}
use Rattle.ec_slave.specs.State.{SlaveState, station_of}
use Rattle.ec_sync.specs.SyncManager.{SyncManager}
use Rattle.ec_slave.specs.Physical.{Window, touches, byte_at, byte_read, is_missing, is_stored_at, may_read_byte, memory_written, updated, some_byte_read, is_written, physical_met}
use Rattle.ec_slave.specs.Meeting.{meets, slave_met, datagram_met}
use Rattle.ec_slave.specs.Sound.{IsSlave}

-- the slave and the datagram are as they were
abbrev pub OtherStationPasses : Type 0
OtherStationPasses =
    (s : SlaveState) (d : Datagram) → IsDatagram d → (d.command ≡ Fprd) ⊎ ((d.command ≡ Fpwr) ⊎ (d.command ≡ Fprw)) → adp_of d ≢ station_of s
    → meets s d ≡ record { slave = s; datagram = d }

-- only the slave that receives ADP 0 is meant
abbrev pub OtherPositionPasses : Type 0
OtherPositionPasses =
    (s : SlaveState) (d : Datagram) → IsDatagram d → (d.command ≡ Aprd) ⊎ ((d.command ≡ Apwr) ⊎ (d.command ≡ Aprw)) → adp_of d ≢ 0
    → meets s d ≡ record { slave = s; datagram = with_adp d ((adp_of d + 1) % 65536) }

-- what a datagram keeps
pub record KeepsHeading (before after : Datagram) : Type 0 where
  pub command : after.command ≡ before.command
  pub index : after.index ≡ before.index
  pub ado : ado_of after ≡ ado_of before
  pub reserved : after.reserved ≡ before.reserved
  pub circulating : after.circulating ≡ before.circulating
  pub irq : after.irq ≡ before.irq
  pub data_length : length after.data_bytes ≡ length before.data_bytes

abbrev pub HeadingStays : Type 0
HeadingStays = (s : SlaveState) (d : Datagram) → IsDatagram d → KeepsHeading d (datagram_met s d)

-- A datagram of any command that adds nothing to the working counter changes nothing: the slave is as it was, and so are the
-- data. A request for an AL state, and a command to the SII that the port takes, count.
abbrev pub CountsWhatItChanges : Type 0
CountsWhatItChanges =
    (s : SlaveState) (d : Datagram) → IsSlave s → d.counter < 65536 → (datagram_met s d).counter ≡ d.counter
    → (slave_met s d ≡ s) × ((datagram_met s d).data_bytes ≡ d.data_bytes)

-- the byte of address a after a write: the data byte that belongs to it if the memory itself keeps it; else what it was
pub record IsWrittenAt (o : Option Hardware) (ms : List SyncManager) (w : Window) (memory : List ℕ) (a : ℕ) : Type 0 where
  pub taken : touches w a ≡ true → is_missing o a ≡ false → is_stored_at ms a ≡ true → slice_index (memory_written o ms w memory) a ≡ slice_index w.bytes (a - w.from)
  pub missing : is_missing o a ≡ true → slice_index (memory_written o ms w memory) a ≡ slice_index memory a
  pub refused : is_stored_at ms a ≡ false → slice_index (memory_written o ms w memory) a ≡ slice_index memory a
  pub untouched : touches w a ≡ false → slice_index (memory_written o ms w memory) a ≡ slice_index memory a

abbrev pub WritesByByte : Type 0
WritesByByte =
    (o : Option Hardware) (ms : List SyncManager) (w : Window) (memory : List ℕ)
    → (length (memory_written o ms w memory) ≡ length memory) × ((a : ℕ) → a < length memory → IsWrittenAt o ms w memory a)

-- data byte k after a read: what its address reads, joined by OR in a broadcast, or what it was if it may not be read
pub record IsReadAt (s : SlaveState) (joining : Bool) (w : Window) (k : ℕ) : Type 0 where
  pub given : may_read_byte s.managers (touches w) (w.from + k) ≡ true
      → slice_index (updated w.bytes (byte_read s joining w)) k ≡ (if joining then bit_or (slice_index w.bytes k) (byte_at s (w.from + k)) else byte_at s (w.from + k))
  pub denied : may_read_byte s.managers (touches w) (w.from + k) ≡ false → slice_index (updated w.bytes (byte_read s joining w)) k ≡ slice_index w.bytes k

abbrev pub ReadsByByte : Type 0
ReadsByByte = (s : SlaveState) (joining : Bool) (w : Window) (k : ℕ) → k < length w.bytes → IsReadAt s joining w k

-- by the role, whether some byte was read, and whether some byte was written
abbrev pub count_of : Role → Bool → Bool → ℕ
count_of Nothing read written = 0
count_of Read read written = if read then 1 else 0
count_of Write read written = if written then 1 else 0
count_of ReadWrite read written = if read then (if written then 3 else 1) else (if written then 2 else 0)
count_of OrRead read written = if read then 1 else 0
count_of OrReadWrite read written = if read then (if written then 3 else 1) else (if written then 2 else 0)

abbrev pub CountsByRole : Type 0
CountsByRole = (s : SlaveState) (role : Role) (w : Window) → (physical_met s role w).added ≡ count_of role (some_byte_read s.managers w) (is_written s w)
