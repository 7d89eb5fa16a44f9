-- Laws of a whole meeting: what a slave's registers, managers and bits are after a datagram.
use Rattle.std.specs.Prelude.{ℕ, ◌+◌, ◌-◌, ◌*◌, ◌/◌, ◌<◌, ◌≤◌, ◌≡◌, ◌&&◌, ◌||◌, length, Bool, true, false, if◌then◌else◌, slice_index, unwrap_or}
use Rattle.ec_bits.specs.Bits.{bit, within}
use Rattle.ec_regs.specs.Memory.{sii_control, sync_managers, ram_start}
use Rattle.ec_frame.specs.declared.command.Command.TheVariants.{Lrd, Lwr, Lrw}
use Rattle.ec_frame.specs.Datagram.{Datagram, adp_of, ado_of}
use Rattle.ec_sync.specs.SyncManager.{SyncManager, configured, visible}
use Rattle.ec_dl.specs.DataLink.{dl_stores}
use Rattle.ec_fmmu.specs.Applied.{touched_by_writing}
use Rattle.ec_slave.specs.Roles.{role_of, is_writing}
use Rattle.ec_slave.specs.State.{SlaveState, manager_at, station_of, fmmus}
use Rattle.ec_slave.specs.Sound.{IsSlave}
use Rattle.ec_slave.specs.Managers.{is_written_by}
use Rattle.ec_slave.specs.AgainstAll.{governs_among}
use Rattle.ec_slave.specs.Physical.{byte_at, touches, is_configured, keeps, settings_written}
use Rattle.ec_slave.specs.Logical.{brought, only_if, span_of, plain_bit, read_bit}
use Rattle.ec_slave.specs.Meeting.{window_of, slave_met, datagram_met}

-- the datagram writes at the slave, by its command and the address that it has
abbrev pub writes_at : SlaveState → Datagram → Bool
writes_at s d = is_writing (role_of d.command (adp_of d) (station_of s))

-- A register outside the sync managers and the SII port reads the byte that a writing datagram brings, if it is stored and no
-- register of an FMMU that the slave lacks, or if it is a data link register of a full slave that keeps writes; else it reads what
-- it read before.
abbrev pub RegistersAfterWrite : Type 0
RegistersAfterWrite =
    (s : SlaveState) (d : Datagram) (a : ℕ) → IsSlave s → writes_at s d ≡ true → a < sync_managers → within sii_control 6 a ≡ false
    → byte_at (slave_met s d) a ≡ (if touches (window_of d) a && (keeps s.kind.hardware a || dl_stores s.link a) then slice_index d.data_bytes (a - ado_of d) else byte_at s a)

-- A writing datagram over registers alone: each manager of which it writes a setting has the settings that its bytes then
-- say, is empty, and is locked or not, awaited or not as it was; every other manager is as it was.
abbrev pub ManagersAfterWrite : Type 0
ManagersAfterWrite =
    (s : SlaveState) (d : Datagram) (n : ℕ) → n < length s.managers → writes_at s d ≡ true → ado_of d + length d.data_bytes ≤ ram_start
    → let m : SyncManager = manager_at s.managers n in
    manager_at (slave_met s d).managers n
    ≡ (if is_configured s.kind.hardware (window_of d) n then configured m (settings_written s.kind.hardware (window_of d) n m) else m)

-- A logical datagram moves bits. A data bit becomes what the read set shows for it, if it may be read. A bit of the memory
-- itself becomes what the write set brings it, if no manager governs it. All other bits are as they were.
pub record MovesBits (reading writing : Bool) (s : SlaveState) (d : Datagram) : Type 0 where
  pub data_bits : (i : ℕ) → i < 8 * length d.data_bytes
      → bit (datagram_met s d).data_bytes i
      ≡ unwrap_or (only_if reading (read_bit s.memory s.managers (fmmus s) (span_of d) i)) (bit d.data_bytes i)
  pub memory_bits : (q : ℕ) → q < 8 * length s.memory
      → bit (slave_met s d).memory q
      ≡ unwrap_or (only_if writing (plain_bit s.managers (fmmus s) (span_of d) d.data_bytes q)) (bit s.memory q)

pub record LogicalBitByBit : Type 0 where
  pub read : (s : SlaveState) (d : Datagram) → d.command ≡ Lrd → MovesBits true false s d
  pub write : (s : SlaveState) (d : Datagram) → d.command ≡ Lwr → MovesBits false true s d
  pub both : (s : SlaveState) (d : Datagram) → d.command ≡ Lrw → s.kind.lrw ≡ true → MovesBits true true s d

-- Each bit of the value that a logical datagram writes into a manager is what the write set brings there, in the bytes
-- that this manager itself governs; all others are 0.
abbrev pub IsValueWritten : SlaveState → Datagram → ℕ → Type 0
IsValueWritten s d n =
    let m : SyncManager = manager_at s.managers n in
    is_written_by (touched_by_writing (fmmus s) (span_of d)) (governs_among s.managers n) m ≡ true
    → (k : ℕ) → k < 8 * m.settings.length
    → bit (visible (manager_at (slave_met s d).managers n)) k
    ≡ unwrap_or (only_if (governs_among s.managers n ((8 * m.settings.start + k) / 8)) (brought (fmmus s) (span_of d) d.data_bytes (8 * m.settings.start + k))) false

pub record ValueBitByBit : Type 0 where
  pub write : (s : SlaveState) (d : Datagram) (n : ℕ) → n < length s.managers → d.command ≡ Lwr → IsValueWritten s d n
  pub both : (s : SlaveState) (d : Datagram) (n : ℕ) → n < length s.managers → d.command ≡ Lrw → s.kind.lrw ≡ true → IsValueWritten s d n
