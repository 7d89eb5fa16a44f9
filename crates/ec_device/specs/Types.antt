-- What a slave of a type is (ETG.1000.6, "Object dictionary"; the types are those of a link table).
use Rattle.std.specs.Prelude.{ℕ, ◌+◌, ◌<◌, ◌≤◌, ◌≡◌, ◌≢◌, List, [], length, Bool, true, Option, None, All, AllPairs, sum_by}
use Rattle.std.specs.Option.{ForSome}
use Rattle.ec_device.specs.declared.slave_type.Entry.{Entry}
use Rattle.ec_device.specs.declared.slave_type.Pdo.{Pdo}
use Rattle.ec_device.specs.declared.slave_type.Mailbox.{Mailbox}
use Rattle.ec_device.specs.declared.slave_type.Device.{Device}
use Rattle.ec_device.specs.declared.slave_type.Identity.{Identity}
use Rattle.ec_device.specs.declared.slave_type.Face.{Face}
use Rattle.ec_device.specs.declared.hardware.Hardware.{Hardware}
use Rattle.ec_device.specs.declared.parameter.Parameter.{Parameter}

-- the value of a `SlaveType`
pub record SlaveKind : Type 0 where
  pub device : Device
  pub mailbox : Option Mailbox
  -- where its outputs and its inputs begin, inside the slave
  pub out_start : ℕ
  pub in_start : ℕ
  pub outputs : List Pdo
  pub inputs : List Pdo
  -- whether it takes part in LRW datagrams
  pub lrw : Bool
  -- what a full slave shows besides
  pub face : Option Face
  -- what it says of real devices
  pub hardware : Option Hardware
  -- the downloads that its slaves get before their process data
  pub init : List Parameter

-- what a slave of the device shows, which has a serial number of its own
abbrev pub device_identity : Device → ℕ → Identity
device_identity d serial = record { vendor = d.vendor; product = d.product; revision = d.revision; serial = serial }

-- the device of a slave that shows this
abbrev pub device_of : Identity → Device
device_of i = record { vendor = i.vendor; product = i.product; revision = i.revision }

-- how many bits a PDO has, gaps with them
abbrev pub pdo_bits : Pdo → ℕ
pdo_bits p = sum_by (λ e. e.bits) p.entries

-- how many bits the PDOs of a direction have
abbrev pub pdos_bits : List Pdo → ℕ
pdos_bits ps = sum_by pdo_bits ps

-- where the indices of the output PDOs begin (receive PDOs, ETG.1000.6), and those of the input PDOs (transmit PDOs)
abbrev pub first_output_index : ℕ
first_output_index = 0x1600

abbrev pub first_input_index : ℕ
first_input_index = 0x1A00

-- The limits of this profile.

-- an entry has 1 to 64 bits, and a gap, which has index 0, has subindex 0
pub record IsEntry (e : Entry) : Type 0 where
  pub some : 1 ≤ e.bits
  pub few : e.bits ≤ 64
  pub gap : e.index ≡ 0 → e.subindex ≡ 0

-- a PDO of the direction whose 512 indices begin at `first` has at most 64 entries
pub record IsPdo (first : ℕ) (p : Pdo) : Type 0 where
  pub from : first ≤ p.index
  pub below : p.index < first + 512
  pub few : length p.entries ≤ 64
  pub entries : All IsEntry p.entries

-- a direction has at most 16 PDOs, no two with one index
pub record ArePdos (first : ℕ) (ps : List Pdo) : Type 0 where
  pub few : length ps ≤ 16
  pub each : All (IsPdo first) ps
  pub apart : AllPairs (λ p q. p.index ≢ q.index) ps

-- a mailbox has 16 to 1024 bytes in each direction
pub record IsMailbox (m : Mailbox) : Type 0 where
  pub receive_some : 16 ≤ m.receive_size
  pub receive_few : m.receive_size ≤ 1024
  pub send_some : 16 ≤ m.send_size
  pub send_few : m.send_size ≤ 1024

-- a name has 1 to 32 bytes; which bytes, a table says alone: it takes letters, digits and `_`
pub record IsFace (f : Face) : Type 0 where
  pub named : 1 ≤ length f.name
  pub short : length f.name ≤ 32

-- the limits of a type, which touch its mailbox and its PDOs
pub record IsWithinLimits (m : Option Mailbox) (outs ins : List Pdo) : Type 0 where
  pub mailbox : ForSome m IsMailbox
  pub outputs : ArePdos first_output_index outs
  pub inputs : ArePdos first_input_index ins

-- a type without PDOs, mailbox, face, hardware and parameters, which takes part in LRW
abbrev pub plain_kind : SlaveKind
plain_kind = record {
  device = record { vendor = 0; product = 0; revision = 0 };
  mailbox = None;
  out_start = 0;
  in_start = 0;
  outputs = [];
  inputs = [];
  lrw = true;
  face = None;
  hardware = None;
  init = [];
}
