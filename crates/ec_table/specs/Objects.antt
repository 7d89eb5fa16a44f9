-- What a table says of one slave or one link: its type, its identity, its face if it is full, the downloads to it, and the entries of the PDOs that it assigns (ETG.1000.6, "Object dictionary").
use Rattle.std.specs.Prelude.{ℕ, ◌+◌, ◌==◌, if◌then◌else◌, List, [], ◌++◌, length, Option, Some, None, is_none, slice_get, option_map, option_and_then}
use Rattle.std.specs.List.{flat_map}
use Rattle.std.specs.Option.{option_map_or}
use Rattle.ec_device.specs.declared.slave_type.Entry.{Entry}
use Rattle.ec_device.specs.declared.slave_type.Identity.{Identity}
use Rattle.ec_device.specs.declared.slave_type.Face.{Face}
use Rattle.ec_device.specs.declared.parameter.Parameter.{Parameter}
use Rattle.ec_device.specs.Types.{SlaveKind, device_identity}
use Rattle.ec_device.specs.Hardware.{other_name}
use Rattle.ec_device.specs.Objects.{ObjectBit, entry_bits, assigned_entries}
use Rattle.ec_table.specs.declared.rows.Direction.{Direction}
use Rattle.ec_table.specs.declared.rows.TypeRow.{TypeRow}
use Rattle.ec_table.specs.declared.rows.SlaveRow.{SlaveRow}
use Rattle.ec_table.specs.declared.rows.VariableRow.{VariableRow}
use Rattle.ec_table.specs.declared.rows.LinkRow.{LinkRow}
use Rattle.ec_table.specs.Contents.{Contents, pdos_toward, assigned_toward}

-- the type of slave s
abbrev pub type_of : Contents → ℕ → Option TypeRow
type_of c s = option_and_then (λ (r : SlaveRow). slice_get c.types r.type_index) (slice_get c.slaves s)

-- the variable, and the slave, of link l
abbrev pub variable_of : Contents → ℕ → Option VariableRow
variable_of c l = option_and_then (λ (r : LinkRow). slice_get c.variables r.variable) (slice_get c.links l)

abbrev pub slave_of : Contents → ℕ → Option SlaveRow
slave_of c l = option_and_then (λ (r : LinkRow). slice_get c.slaves r.slave) (slice_get c.links l)

-- the identity of slave s: its type's device, and its own serial number
abbrev pub identity_of : Contents → ℕ → Option Identity
identity_of c s = option_and_then (λ (r : SlaveRow). option_map (λ (t : TypeRow). device_identity t.device r.serial) (slice_get c.types r.type_index)) (slice_get c.slaves s)

-- a type as its slaves have it if they are not full; outputs that are pins lie elsewhere inside a slave
abbrev pub kind_of_type : TypeRow → SlaveKind
kind_of_type t = record {
  device = t.device;
  mailbox = t.mailbox;
  out_start = other_name t.hardware t.process.out_start;
  in_start = t.process.in_start;
  outputs = t.process.outputs;
  inputs = t.process.inputs;
  lrw = t.lrw;
  face = None;
  hardware = t.hardware;
  init = t.init;
}

-- the face of slave s, of that type, if it is full: the name of its type, and whether it is the last of its ring
abbrev pub face_of : Contents → ℕ → TypeRow → Face
face_of c s t = record { name = t.name; is_last = s + 1 == length c.slaves }

-- that face, but none of a type that says what it has of real devices: its slaves are never full
abbrev pub face_shown : Contents → ℕ → TypeRow → Option Face
face_shown c s t = if is_none t.hardware then Some (face_of c s t) else None

-- what is downloaded to slave s behind the downloads of its type
abbrev pub own_init : Contents → ℕ → List Parameter
own_init c s = option_map_or (λ (r : SlaveRow). r.init) (slice_get c.slaves s) []

-- slave s, of that type: it may have a face if the table's slaves are full, and has downloads of its own
abbrev pub kind_at : Contents → ℕ → TypeRow → SlaveKind
kind_at c s t = record (kind_of_type t) { face = if c.full then face_shown c s t else None; init = t.init ++ own_init c s }

-- the type of slave s, as a slave has it
abbrev pub kind_of : Contents → ℕ → Option SlaveKind
kind_of c s = option_map (kind_at c s) (type_of c s)

-- the entries of slave s in a direction
unfoldable pub entries_of : Contents → ℕ → Direction → List Entry
entries_of c s d = option_map_or (λ (r : SlaveRow). option_map_or (λ (t : TypeRow). assigned_entries (pdos_toward d t) (assigned_toward d r)) (slice_get c.types r.type_index) []) (slice_get c.slaves s) []

-- the object bits of slave s in a direction, in order, gaps with them
abbrev pub object_bits : Contents → ℕ → Direction → List (Option ObjectBit)
object_bits c s d = flat_map entry_bits (entries_of c s d)
