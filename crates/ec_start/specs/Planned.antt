-- What a plan must be: the link compiler's plan of each slave is so.
use Rattle.std.specs.Prelude.{ℕ, ◌+◌, ◌*◌, ◌^◌, ◌<◌, ◌≤◌, ◌≡◌, ◌⊎◌, ◌==◌, List, [], ◌∷◌, length, true, false, Some, None, is_some}
use Rattle.ec_regs.specs.declared.manager.SyncManagerSettings.{SyncManagerSettings}
use Rattle.ec_regs.specs.declared.fmmu.FmmuSettings.{FmmuSettings}
use Rattle.ec_device.specs.declared.slave_type.Mailbox.{Mailbox}
use Rattle.ec_device.specs.Hardware.{AreNumbered, fmmu_count, is_assignable}
use Rattle.ec_device.specs.Parameters.{AreParameters}
use Rattle.ec_regs.specs.Managers.{no_settings, is_set, is_mailbox, is_master_written, is_master_read}
use Rattle.ec_regs.specs.Fmmus.{no_fmmu}
use Rattle.ec_coe.specs.Messages.{size_number}
use Rattle.ec_coe.specs.Objects.{has_some, indices}
use Rattle.ec_link.specs.declared.settings.SlavePlan.{SlavePlan}
use Rattle.ec_start.specs.declared.action.Transfer.{Transfer}
use Rattle.ec_start.specs.declared.action.Transfer.TheVariants.{Download, Upload}
use Rattle.ec_start.specs.declared.action.SdoRequest.{SdoRequest}
use Rattle.ec_start.specs.Plans.{settings_at, fmmu_at}
use Rattle.ec_start.specs.Scripts.{requests}

-- a value that is downloaded has as many bytes as its size says
abbrev pub IsTransfer : Transfer → Type 0
IsTransfer (Download value) = value.number < 2 ^ (8 * size_number value.size)
IsTransfer (Upload value) = Unit {0}

-- the fields of a request fit their bits
pub record IsRequest (r : SdoRequest) : Type 0 where
  pub index : r.index < 65536
  pub subindex : r.subindex < 256
  pub transfer : IsTransfer r.transfer

abbrev pub AreRequests : List SdoRequest → Type 0
AreRequests [] = Unit {0}
AreRequests (r ∷ rs) = IsRequest r × AreRequests rs

-- the managers 0 and 1 are the mailboxes, and 2 and 3 aren't set yet
pub record AreMailboxes (b : Mailbox) (ms : List SyncManagerSettings) : Type 0 where
  pub receive_start : (settings_at ms 0).start ≡ b.receive_start
  pub receive_length : (settings_at ms 0).length ≡ b.receive_size
  pub receive_mailbox : is_mailbox (settings_at ms 0) ≡ true
  pub receive_written : is_master_written (settings_at ms 0) ≡ true
  pub receive_set : is_set (settings_at ms 0) ≡ true
  pub send_start : (settings_at ms 1).start ≡ b.send_start
  pub send_length : (settings_at ms 1).length ≡ b.send_size
  pub send_mailbox : is_mailbox (settings_at ms 1) ≡ true
  pub send_read : is_master_read (settings_at ms 1) ≡ true
  pub send_set : is_set (settings_at ms 1) ≡ true
  -- no byte of the one belongs to the other
  pub apart : (b.receive_start + b.receive_size ≤ b.send_start) ⊎ (b.send_start + b.send_size ≤ b.receive_start)
  pub receive_some : 16 ≤ b.receive_size
  pub send_some : 16 ≤ b.send_size
  pub no_outputs : settings_at ms 2 ≡ no_settings
  pub no_inputs : settings_at ms 3 ≡ no_settings

-- the bit numbers of an FMMU are 0 to 7
pub record IsFmmu (f : FmmuSettings) : Type 0 where
  pub start : f.start_bit < 8
  pub stop : f.stop_bit < 8
  pub physical : f.physical_bit < 8

-- what the link compiler's plan of a slave has to be
pub record IsStartable (p : SlavePlan) : Type 0 where
  pub m0 : SyncManagerSettings
  pub m1 : SyncManagerSettings
  pub m2 : SyncManagerSettings
  pub m3 : SyncManagerSettings
  pub managers : p.managers ≡ m0 ∷ m1 ∷ m2 ∷ m3 ∷ []
  pub f0 : FmmuSettings
  pub f1 : FmmuSettings
  pub fmmus : p.fmmus ≡ f0 ∷ f1 ∷ no_fmmu ∷ no_fmmu ∷ []
  pub no_mailbox : p.kind.mailbox ≡ None → (m0 ≡ no_settings) × (m1 ≡ no_settings)
  pub mailbox : (b : Mailbox) → p.kind.mailbox ≡ Some b → AreMailboxes b (m0 ∷ m1 ∷ no_settings ∷ no_settings ∷ [])
  pub no_outputs : (m2.activate == 0) ≡ true → m2 ≡ no_settings
  pub no_inputs : (m3.activate == 0) ≡ true → m3 ≡ no_settings
  pub no_out_fmmu : f0.active ≡ false → f0 ≡ no_fmmu
  pub no_in_fmmu : f1.active ≡ false → f1 ≡ no_fmmu
  pub readable : (n : ℕ) → n < 4 → IsFmmu (fmmu_at p.fmmus n)
  -- its registers have names, and it has an FMMU for each direction
  pub numbered : AreNumbered p.kind.hardware
  pub has_fmmus : 2 ≤ fmmu_count p.kind.hardware
  -- with `hardware` it isn't full
  pub faceless : is_some p.kind.hardware ≡ true → p.kind.face ≡ None
  pub requests : AreRequests (requests p)
  -- its parameters are few, and go through its mailbox
  pub parameters : AreParameters p.kind.mailbox p.kind.init
  -- a slave whose assignment can't be written has all its PDOs assigned, and none if its type has none
  pub all_assigned : is_assignable p.kind.mailbox p.kind.hardware ≡ false → (p.outputs ≡ indices p.kind.outputs) × (p.inputs ≡ indices p.kind.inputs)
  pub no_outs : has_some p.kind.outputs ≡ false → p.outputs ≡ []
  pub no_ins : has_some p.kind.inputs ≡ false → p.inputs ≡ []

-- Each slot of the two assignments has a subindex of one byte.
pub record HasFewAssigned (p : SlavePlan) : Type 0 where
  pub outputs : length p.outputs < 256
  pub inputs : length p.inputs < 256
