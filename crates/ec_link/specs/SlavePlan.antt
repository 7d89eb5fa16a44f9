-- What a plan sets in a slave: its four sync managers and its four FMMUs (ETG.1000.4; that manager 0 and 1 are the
-- mailboxes, 2 the outputs, 3 the inputs, and FMMU 0 the outputs, 1 the inputs, is this project's profile). Managers and addresses
-- are those inside the slave: the numbers and addresses of a real device's registers are a matter of the registers alone.
use Rattle.std.specs.Prelude.{ℕ, ◌+◌, ◌*◌, ◌/◌, ◌%◌, ◌<◌, ◌≤◌, ◌⊎◌, ◌==◌, ◌≡◌, ◌&&◌, ◌||◌, Bool, true, false, nat_lt, nat_le, if◌then◌else◌, List, [], ◌∷◌, map, get_or, Option, Some, None}
use Rattle.std.specs.List.{list_any}
use Rattle.std.specs.Option.{ForSome}
use Rattle.ec_bits.specs.Bits.{bytes_of_bits}
use Rattle.ec_device.specs.declared.slave_type.Mailbox.{Mailbox}
use Rattle.ec_device.specs.declared.hardware.Hardware.{Hardware}
use Rattle.ec_device.specs.Hardware.{IsHardware, out_manager, in_manager, manager_place, pins_inside}
use Rattle.ec_regs.specs.declared.manager.SyncManagerSettings.{SyncManagerSettings}
use Rattle.ec_regs.specs.declared.fmmu.FmmuSettings.{FmmuSettings}
use Rattle.ec_regs.specs.Managers.{no_settings, area_settings, is_mailbox, is_set, span, mailbox_out_control, mailbox_in_control, outputs_control, inputs_control}
use Rattle.ec_regs.specs.Memory.{ram_start, ram_end}
use Rattle.ec_regs.specs.Fmmus.{no_fmmu}
use Rattle.ec_fmmu.specs.Runs.{run_settings}

-- ---- managers

-- mailbox out: the ring writes it
abbrev pub receive_manager : Option Mailbox → SyncManagerSettings
receive_manager None = no_settings
receive_manager (Some m) = area_settings m.receive_start m.receive_size mailbox_out_control

-- mailbox in: the ring reads it
abbrev pub send_manager : Option Mailbox → SyncManagerSettings
send_manager None = no_settings
send_manager (Some m) = area_settings m.send_start m.send_size mailbox_in_control

-- process data: as many bytes as its bits need, and none without bits
abbrev pub process_manager : ℕ → ℕ → ℕ → SyncManagerSettings
process_manager start bits control = if bits == 0 then no_settings else area_settings start (bytes_of_bits bits) control

-- the control bytes of the process data are those of the type: without hardware the usual ones
unfoldable pub managers_of : Option Mailbox → Option Hardware → (out_start in_start outs ins : ℕ) → List SyncManagerSettings
managers_of mailbox o out_start in_start outs ins =
    receive_manager mailbox ∷ send_manager mailbox
    ∷ process_manager out_start outs (out_manager o).control ∷ process_manager in_start ins (in_manager o).control ∷ []

-- without hardware these are the usual control bytes
pub record UsualControls : Type 0 where
  pub outputs : (out_manager None).control ≡ outputs_control
  pub inputs : (in_manager None).control ≡ inputs_control

-- a control byte of a buffered manager that the ring writes or reads (ETG.1000.4, "Sync manager")
pub record IsOfBuffer (control : ℕ) : Type 0 where
  pub mode : control % 4 ≡ 0
  pub way : (control / 4 % 4 ≡ 1) ⊎ (control / 4 % 4 ≡ 0)

-- Process data is buffered: the type's control bytes say so, such a manager is no mailbox, and it is set if its three buffers lie in
-- the RAM.
pub record ProcessDataIsBuffered : Type 0 where
  pub type_outputs : (mailbox : Option Mailbox) (o : Option Hardware) → ForSome o (IsHardware mailbox) → IsOfBuffer (out_manager o).control
  pub type_inputs : (mailbox : Option Mailbox) (o : Option Hardware) → ForSome o (IsHardware mailbox) → IsOfBuffer (in_manager o).control
  pub outputs : (control : ℕ) → control % 16 ≡ 4 → IsOfBuffer control
  pub inputs : (control : ℕ) → control % 16 ≡ 0 → IsOfBuffer control
  pub no_mailbox : (start bytes control : ℕ) → IsOfBuffer control → is_mailbox (area_settings start bytes control) ≡ false
  pub set : (start bytes control : ℕ) → IsOfBuffer control → 0 < bytes → ram_start ≤ start → start + 3 * bytes ≤ ram_end → is_set (area_settings start bytes control) ≡ true
  -- bits have a manager
  pub some : (start bits control : ℕ) → 0 < bits → process_manager start bits control ≡ area_settings start (bytes_of_bits bits) control

abbrev pub manager_in_place : List SyncManagerSettings → ℕ → SyncManagerSettings
manager_in_place ms place = get_or ms place no_settings

-- two spans share a byte; a manager that isn't set has none
abbrev pub meet : SyncManagerSettings → SyncManagerSettings → Bool
meet m n = nat_lt m.start (n.start + span n) && nat_lt n.start (m.start + span m)

abbrev pub some_meet : List SyncManagerSettings → Bool
some_meet [] = false
some_meet (m ∷ ms) = list_any (meet m) ms || some_meet ms

-- a span leaves the RAM
abbrev pub leaves_ram : SyncManagerSettings → Bool
leaves_ram m = nat_lt 0 m.length && (nat_lt m.start ram_start || nat_lt ram_end (m.start + span m))

-- The register of the pins has four bytes, and outputs that begin in it end in it. Its other name inside the slave is the end of the
-- RAM: there no other area of such a type begins.
abbrev pub ends_past_pins : SyncManagerSettings → Bool
ends_past_pins m = nat_lt 0 m.length && nat_lt (pins_inside + 4) (m.start + m.length)

abbrev pub begins_at_pins : SyncManagerSettings → Bool
begins_at_pins m = nat_lt 0 m.length && nat_le pins_inside m.start

abbrev pub leaves_pins : Option Hardware → List SyncManagerSettings → Bool
leaves_pins None ms = false
leaves_pins (Some h) ms =
    h.has_pins && (ends_past_pins (manager_in_place ms 2) || list_any begins_at_pins (manager_in_place ms 0 ∷ manager_in_place ms 1 ∷ manager_in_place ms 3 ∷ []))

-- a manager of a slave isn't where it can be
abbrev pub is_outside : Option Hardware → List SyncManagerSettings → Bool
is_outside o ms = list_any leaves_ram ms || leaves_pins o ms

-- ---- as the registers have them

-- by register number: the manager at the place that has the number
abbrev pub by_number : Option Hardware → List SyncManagerSettings → List SyncManagerSettings
by_number o ms = map (λ n. manager_in_place ms (manager_place o n)) (0 ∷ 1 ∷ 2 ∷ 3 ∷ [])

-- ---- FMMUs

-- outputs and inputs share the area: both begin at its first bit
abbrev pub fmmus_of : (from out_start in_start outs ins : ℕ) → List FmmuSettings
fmmus_of from out_start in_start outs ins = run_settings false true from outs out_start ∷ run_settings true false from ins in_start ∷ no_fmmu ∷ no_fmmu ∷ []
