-- What each table that was read keeps.
use Rattle.std.specs.Prelude.{◌≡◌, ◌≢◌, ℕ, ◌<◌, ◌≤◌, ◌^◌, List, [], length, Bool, Option, Some, None, All, AllPairs, Contains, IsTrue, false, is_some, slice_get}
use Rattle.std.specs.Option.{ForSome}
use Rattle.ec_device.specs.declared.slave_type.Entry.{Entry}
use Rattle.ec_device.specs.declared.slave_type.Pdo.{Pdo}
use Rattle.ec_device.specs.declared.slave_type.Mailbox.{Mailbox}
use Rattle.ec_device.specs.declared.slave_type.Device.{Device}
use Rattle.ec_device.specs.declared.hardware.Hardware.{Hardware}
use Rattle.ec_device.specs.declared.parameter.Parameter.{Parameter}
use Rattle.ec_device.specs.Hardware.{IsHardware, are_pins, is_assignable}
use Rattle.ec_device.specs.Parameters.{bit_count}
use Rattle.ec_device.specs.Types.{IsWithinLimits, first_output_index, first_input_index}
use Rattle.ec_table.specs.declared.rows.Version.{Version}
use Rattle.ec_table.specs.declared.rows.Version.TheVariants.{One}
use Rattle.ec_table.specs.declared.rows.Direction.{Direction}
use Rattle.ec_table.specs.declared.rows.Direction.TheVariants.{Out, In}
use Rattle.ec_table.specs.declared.rows.TypeRow.{TypeRow}
use Rattle.ec_table.specs.declared.rows.SlaveRow.{SlaveRow}
use Rattle.ec_table.specs.declared.rows.VariableRow.{VariableRow}
use Rattle.ec_table.specs.declared.rows.LinkBits.{LinkBits}
use Rattle.ec_table.specs.declared.rows.LinkRow.{LinkRow}
use Rattle.ec_table.specs.Contents.{Contents, pdos_toward, assigned_toward}
use Rattle.ec_table.specs.Fields.{is_name}
use Rattle.ec_table.specs.Pdos.{indices_of}

-- 1 to 32 ASCII letters, digits and `_`
abbrev pub IsName : List ℕ → Type 0
IsName s = IsTrue (is_name s)

-- no two are the same
abbrev pub IsOnce : {X : Type 0} → List X → Type 0
IsOnce xs = AllPairs (λ x y. x ≢ y) xs

-- ---- types

pub record IsDevice (d : Device) : Type 0 where
  pub vendor : d.vendor ≤ 4294967295
  pub product : d.product ≤ 4294967295
  pub revision : d.revision ≤ 4294967295

-- the addresses of mailboxes have 16 bits
pub record HasMailboxStarts (m : Mailbox) : Type 0 where
  pub receive : m.receive_start ≤ 65535
  pub send : m.send_start ≤ 65535

-- an entry's name: an index of 16 bits and a subindex of 8
pub record HasName (e : Entry) : Type 0 where
  pub index : e.index ≤ 65535
  pub subindex : e.subindex ≤ 255

-- a download: an index of 16 bits, a subindex of 8, and a value of its bits
pub record IsDownload (q : Parameter) : Type 0 where
  pub index : q.index ≤ 65535
  pub subindex : q.subindex ≤ 255
  pub value : q.value < 2 ^ bit_count q.size

-- the downloads of a type or of a slave: at most 64, and none without a mailbox
pub record AreDownloads (m : Option Mailbox) (qs : List Parameter) : Type 0 where
  pub few : length qs ≤ 64
  pub each : All IsDownload qs
  pub mailbox : m ≡ None → qs ≡ []

-- the indices of process data objects: RxPDOs are outputs, TxPDOs inputs (ETG.1000.6, "Object dictionary")
abbrev pub first_index : Direction → ℕ
first_index Out = first_output_index
first_index In = first_input_index

-- What a type says of real devices: its outputs are pins if they begin there, and a revision that is left out is 0.
pub record IsDescribed (t : TypeRow) (h : Hardware) : Type 0 where
  pub limits : IsHardware t.mailbox h
  pub pins : h.has_pins ≡ are_pins t.process.out_start
  pub revision : IsTrue h.any_revision → t.device.revision ≡ 0

-- a type of slaves, within the limits of the profile, and each of its numbers within its range
pub record IsType (t : TypeRow) : Type 0 where
  pub name : IsName t.name
  pub device : IsDevice t.device
  pub limits : IsWithinLimits t.mailbox t.process.outputs t.process.inputs
  pub mailbox : ForSome t.mailbox HasMailboxStarts
  pub out_start : t.process.out_start ≤ 65535
  pub in_start : t.process.in_start ≤ 65535
  pub entries : (d : Direction) → All (λ (q : Pdo). All HasName q.entries) (pdos_toward d t)
  pub hardware : ForSome t.hardware (IsDescribed t)
  pub init : AreDownloads t.mailbox t.init

pub record AreTypes (ts : List TypeRow) : Type 0 where
  pub each : All IsType ts
  pub once : AllPairs (λ (t u : TypeRow). t.name ≢ u.name) ts

-- ---- slaves

-- the assigned objects of one direction: each the type's, each once, and all in order if the slave doesn't let itself be assigned
pub record IsAssignment (assignable : Bool) (pdos : List Pdo) (assigned : List ℕ) : Type 0 where
  pub known : All (Contains (indices_of pdos)) assigned
  pub once : IsOnce assigned
  pub fixed : assignable ≡ false → assigned ≡ indices_of pdos

pub record IsSlave (v : Version) (ts : List TypeRow) (s : SlaveRow) : Type 0 where
  pub name : IsName s.name
  pub known : s.type_index < length ts
  pub assigned : (t : TypeRow) (d : Direction) → slice_get ts s.type_index ≡ Some t → IsAssignment (is_assignable t.mailbox t.hardware) (pdos_toward d t) (assigned_toward d s)
  pub serial : s.serial ≤ 4294967295
  pub unit : s.unit ≤ 63
  -- version 1 has one sync unit
  pub one_unit : v ≡ One → s.unit ≡ 0
  pub init : (t : TypeRow) → slice_get ts s.type_index ≡ Some t → AreDownloads t.mailbox s.init

pub record AreSlaves (v : Version) (ts : List TypeRow) (ss : List SlaveRow) : Type 0 where
  pub each : All (IsSlave v ts) ss
  pub once : AllPairs (λ (s r : SlaveRow). s.name ≢ r.name) ss

-- ---- variables

pub record IsVariable (w : VariableRow) : Type 0 where
  pub name : IsName w.name
  pub least : 1 ≤ w.bits
  pub most : w.bits ≤ 64

pub record AreVariables (ws : List VariableRow) : Type 0 where
  pub each : All IsVariable ws
  pub once : AllPairs (λ (w x : VariableRow). w.name ≢ x.name) ws

-- ---- links

pub record IsBits (b : LinkBits) : Type 0 where
  pub variable_bit : b.variable_bit ≤ 63
  pub entry_bit : b.entry_bit ≤ 63
  pub least : 1 ≤ b.count
  pub most : b.count ≤ 64

-- a link joins a variable and an object, no gap, of a slave that exist; this doesn't say whether the slave has the object
pub record IsLink (ss : List SlaveRow) (ws : List VariableRow) (l : LinkRow) : Type 0 where
  pub variable : l.variable < length ws
  pub slave : l.slave < length ss
  pub least : 1 ≤ l.index
  pub most : l.index ≤ 65535
  pub subindex : l.subindex ≤ 255
  pub bits : IsBits l.bits

-- ---- the whole

-- each type of a table for hardware says what it has of real devices; in other tables none does, nothing is downloaded, and no variable
-- has a sign
pub record IsOfFormat (c : Contents) : Type 0 where
  pub types : All (λ (t : TypeRow). is_some t.hardware ≡ c.hardware) c.types
  pub type_init : c.hardware ≡ false → All (λ (t : TypeRow). t.init ≡ []) c.types
  pub slave_init : c.hardware ≡ false → All (λ (s : SlaveRow). s.init ≡ []) c.slaves
  pub variables : c.hardware ≡ false → All (λ (w : VariableRow). w.signed ≡ false) c.variables

pub record IsSound (c : Contents) : Type 0 where
  pub types : AreTypes c.types
  pub slaves : AreSlaves c.version c.types c.slaves
  pub variables : AreVariables c.variables
  pub links : All (IsLink c.slaves c.variables) c.links
  pub format : IsOfFormat c
