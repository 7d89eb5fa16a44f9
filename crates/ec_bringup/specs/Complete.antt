-- What a plan of the link compiler also has, so that an undisturbed start-up ends Ready.
use Rattle.std.specs.Prelude.{ℕ, ◌%◌, ◌^◌, ◌<◌, ◌≤◌, ◌≡◌, ◌≢◌, ◌==◌, ◌&&◌, List, [], ◌∷◌, ◌++◌, length, Bool, true, if◌then◌else◌, Option, Some, None, All}
use Rattle.ec_bits.specs.Bits.{bytes_of_bits}
use Rattle.ec_regs.specs.declared.manager.SyncManagerSettings.{SyncManagerSettings}
use Rattle.ec_device.specs.declared.slave_type.Entry.{Entry}
use Rattle.ec_device.specs.declared.slave_type.Pdo.{Pdo}
use Rattle.ec_device.specs.declared.slave_type.Device.{Device}
use Rattle.ec_device.specs.declared.slave_type.Mailbox.{Mailbox}
use Rattle.ec_regs.specs.Managers.{is_set}
use Rattle.ec_device.specs.Types.{SlaveKind}
use Rattle.ec_device.specs.Hardware.{slow}
use Rattle.ec_coe.specs.Objects.{entry_number, identity_object, output_assignment, input_assignment, device_name_object}
use Rattle.ec_device.specs.Objects.{pdo_at, bits_assigned}
use Rattle.ec_coe.specs.Transfers.{distinct}
use Rattle.ec_slave.specs.Checking.{outputs_mode, inputs_mode}
use Rattle.ec_link.specs.declared.settings.SlavePlan.{SlavePlan}
use Rattle.ec_start.specs.Plans.{settings_at}

-- a mailbox within the limits of a type, in an address space of 16 bits
pub record IsReachable (b : Mailbox) : Type 0 where
  pub receive : b.receive_start < 65536
  pub receive_few : b.receive_size ≤ 1024
  pub receive_some : 16 ≤ b.receive_size
  pub send : b.send_start < 65536
  pub send_few : b.send_size ≤ 1024

-- a mailbox of a plan can be reached by a datagram
abbrev pub CanReach : Option Mailbox → Type 0
CanReach None = Unit {0}
CanReach (Some b) = IsReachable b

-- an entry of 16 bits of index, 8 of subindex and 8 of length is one number of 32 bits
abbrev pub IsNumbered : Entry → Type 0
IsNumbered e = entry_number e < 2 ^ 32

-- an index names a PDO of the direction, and the object with this index is that PDO
pub record IsOffered (kind : SlaveKind) (ps : List Pdo) (x : ℕ) : Type 0 where
  pub pdo : Pdo
  pub named : pdo_at ps x ≡ Some pdo
  pub shown : pdo_at (kind.outputs ++ kind.inputs) x ≡ Some pdo
  pub index_is : pdo.index ≡ x
  pub no_identity : x ≢ identity_object
  pub no_outputs : x ≢ output_assignment
  pub no_inputs : x ≢ input_assignment
  pub no_name : x ≢ device_name_object
  pub few : length pdo.entries < 256
  pub small : x < 65536
  pub entries : All IsNumbered pdo.entries

abbrev pub AreOffered : SlaveKind → List Pdo → List ℕ → Type 0
AreOffered kind ps [] = Unit {0}
AreOffered kind ps (x ∷ xs) = IsOffered kind ps x × AreOffered kind ps xs

-- what a slave assigns in a direction
pub record IsAssignable (kind : SlaveKind) (ps : List Pdo) (xs : List ℕ) : Type 0 where
  pub offered : AreOffered kind ps xs
  pub apart : distinct xs ≡ true
  pub few : length xs ≤ length ps
  pub short : length xs < 256
  pub bits : bits_assigned ps xs ≤ 2048

-- settings that carry so many bits of process data, of a mode and a direction
abbrev pub carries : SyncManagerSettings → ℕ → ℕ → ℕ → Bool
carries m bits start mode =
    if bits == 0 then m.activate % 2 == 0
    else is_set m && ((m.start == start) && ((m.length == bytes_of_bits bits) && (m.control % 16 == mode)))

-- numbers of 32 bits
pub record IsIdentity (t : Device) : Type 0 where
  pub vendor : t.vendor < 2 ^ 32
  pub product : t.product < 2 ^ 32
  pub revision : t.revision < 2 ^ 32

pub record IsComplete (p : SlavePlan) : Type 0 where
  pub identity : IsIdentity p.kind.device
  pub reach : CanReach p.kind.mailbox
  pub outs : IsAssignable p.kind p.kind.outputs p.outputs
  pub ins : IsAssignable p.kind p.kind.inputs p.inputs
  -- without `hardware` it has no parameters; a slow device lets a request wait for 100 firmware steps at most
  pub plain : p.kind.hardware ≡ None → p.kind.init ≡ []
  pub slow : slow p.kind.hardware ≤ 100
  -- without mapped bits it has no output bits
  pub no_out_bits : p.share.outs ≡ 0 → bits_assigned p.kind.outputs p.outputs ≡ 0
  pub out_carried : carries (settings_at p.managers 2) (bits_assigned p.kind.outputs p.outputs) p.kind.out_start outputs_mode ≡ true
  pub in_carried : carries (settings_at p.managers 3) (bits_assigned p.kind.inputs p.inputs) p.kind.in_start inputs_mode ≡ true
