-- The settings of a sync manager (ETG.1000.4, "Sync manager").
use Rattle.std.specs.Prelude.{ℕ, ◌+◌, ◌*◌, ◌/◌, ◌%◌, ◌==◌, ◌≡◌, ◌&&◌, ◌||◌, ◌<◌, ◌≤◌, Bool, true, false, not, List, [], ◌∷◌, if◌then◌else◌, nat_lt, nat_le, slice_index}
use Rattle.ec_regs.specs.declared.manager.SyncManagerSettings.{SyncManagerSettings}
use Rattle.ec_regs.specs.Memory.{ram_start, ram_end}

-- of a manager that isn't there
abbrev pub no_settings : SyncManagerSettings
no_settings = record { start = 0; length = 0; control = 0; activate = 0 }

-- The control bytes of the four usual managers: two mailboxes, and the process data that the ring writes (outputs) and
-- reads (inputs). The bits above the mode and the direction are those that the master sets and the profile doesn't read.
abbrev pub mailbox_out_control : ℕ
mailbox_out_control = 0x26

abbrev pub mailbox_in_control : ℕ
mailbox_in_control = 0x22

abbrev pub outputs_control : ℕ
outputs_control = 0x24

abbrev pub inputs_control : ℕ
inputs_control = 0x20

-- activated, with a value of so many bytes from an address on
abbrev pub area_settings : (start length control : ℕ) → SyncManagerSettings
area_settings start length control = record { start = start; length = length; control = control; activate = 1 }

-- the settings that the eight bytes of a manager say, byte by byte; byte 5 is its status, byte 7 the slave's side
abbrev pub settings_of : (ℕ → ℕ) → SyncManagerSettings
settings_of byte = record { start = byte 0 + 256 * byte 1; length = byte 2 + 256 * byte 3; control = byte 4; activate = byte 6 }

-- the eight bytes that say the settings, with 0 in the two that are no settings
abbrev pub manager_bytes : SyncManagerSettings → List ℕ
manager_bytes m = (m.start % 256) ∷ (m.start / 256) ∷ (m.length % 256) ∷ (m.length / 256) ∷ m.control ∷ 0 ∷ m.activate ∷ 0 ∷ []

-- settings are read back from their bytes
abbrev pub ManagerIsReadBack : Type 0
ManagerIsReadBack = (m : SyncManagerSettings) → settings_of (slice_index (manager_bytes m)) ≡ m

abbrev pub is_mailbox : SyncManagerSettings → Bool
is_mailbox m = m.control % 4 == 2

abbrev pub is_buffered : SyncManagerSettings → Bool
is_buffered m = m.control % 4 == 0

-- the ring writes it
abbrev pub is_master_written : SyncManagerSettings → Bool
is_master_written m = m.control / 4 % 4 == 1

-- the ring reads it
abbrev pub is_master_read : SyncManagerSettings → Bool
is_master_read m = m.control / 4 % 4 == 0

-- how many bytes it governs: its length, of a buffered one three lengths
abbrev pub span : SyncManagerSettings → ℕ
span m = if is_mailbox m then m.length else 3 * m.length

-- activated, of a mode and a direction that are there, at least a byte long, with its span inside the RAM
unfoldable pub is_set : SyncManagerSettings → Bool
is_set m = (m.activate % 2 == 1) && ((is_mailbox m || is_buffered m) && ((is_master_written m || is_master_read m) && (nat_lt 0 m.length && (nat_le ram_start m.start && nat_le (m.start + span m) ram_end))))

-- the settings make a manager of this mode and this direction, and of no other
pub record IsSetAs (m : SyncManagerSettings) (mailbox ring_written : Bool) : Type 0 where
  pub set : is_set m ≡ true
  pub mailbox_mode : is_mailbox m ≡ mailbox
  pub buffered_mode : is_buffered m ≡ not mailbox
  pub written : is_master_written m ≡ ring_written
  pub read : is_master_read m ≡ not ring_written

-- An area of a byte at least that lies in the RAM, of a buffered manager with its two further buffers, makes a manager of
-- the mode and the direction that its usual control byte is named for.
pub record UsualAreasAreSet : Type 0 where
  pub mailboxes : (start length : ℕ) → 0 < length → ram_start ≤ start → start + length ≤ ram_end
      → IsSetAs (area_settings start length mailbox_out_control) true true × IsSetAs (area_settings start length mailbox_in_control) true false
  pub buffers : (start length : ℕ) → 0 < length → ram_start ≤ start → start + 3 * length ≤ ram_end
      → IsSetAs (area_settings start length outputs_control) false true × IsSetAs (area_settings start length inputs_control) false false
