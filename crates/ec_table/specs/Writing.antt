-- The document of a table, with each key written.
use Rattle.std.specs.Prelude.{ℕ, pos, Bool, true, false, List, [], map, codes, Option, Some, None, is_some, slice_get}
use Rattle.std.specs.Option.{option_map_or}
use Rattle.toml.specs.Data.{Data, string, integer, boolean, array, table, Members, no_members, member, no_items, item}
use Rattle.toml.specs.View.{items_of}
use Rattle.ec_device.specs.declared.slave_type.Entry.{Entry}
use Rattle.ec_device.specs.declared.slave_type.Pdo.{Pdo}
use Rattle.ec_device.specs.declared.slave_type.Mailbox.{Mailbox}
use Rattle.ec_device.specs.declared.hardware.ProcessManager.{ProcessManager}
use Rattle.ec_device.specs.declared.hardware.Hardware.{Hardware}
use Rattle.ec_device.specs.declared.parameter.Parameter.{Parameter}
use Rattle.ec_table.specs.declared.rows.Format.{Format}
use Rattle.ec_table.specs.declared.rows.Version.{Version}
use Rattle.ec_table.specs.declared.rows.Version.TheVariants.{One, Two}
use Rattle.ec_table.specs.declared.rows.Direction.{Direction}
use Rattle.ec_table.specs.declared.rows.Direction.TheVariants.{Out, In}
use Rattle.ec_table.specs.declared.rows.TypeRow.{TypeRow}
use Rattle.ec_table.specs.declared.rows.SlaveRow.{SlaveRow}
use Rattle.ec_table.specs.declared.rows.VariableRow.{VariableRow}
use Rattle.ec_table.specs.declared.rows.LinkRow.{LinkRow}
use Rattle.ec_table.specs.declared.rows.LinkBits.{LinkBits}
use Rattle.ec_device.specs.Hardware.{takes_any_revision}
use Rattle.ec_device.specs.Parameters.{bit_count}
use Rattle.ec_table.specs.Contents.{Contents, format_of}

abbrev pub number : ℕ → Data
number n = integer (pos n)

abbrev pub array_of_all : {X : Type 0} → (X → Data) → List X → Data
array_of_all spell xs = array (items_of (map spell xs))

-- [index, subindex, bits]
abbrev pub entry_data : Entry → Data
entry_data e = array (item (number e.index) (item (number e.subindex) (item (number e.bits) no_items)))

abbrev pub pdo_data : Pdo → Data
pdo_data q = table (member (codes "entries") (array_of_all entry_data q.entries) (member (codes "index") (number q.index) no_members))

-- [receive start, receive size, send start, send size]
abbrev pub mailbox_data : Mailbox → Data
mailbox_data m = array (item (number m.receive_start) (item (number m.receive_size) (item (number m.send_start) (item (number m.send_size) no_items))))

-- a type without a mailbox has no such key
abbrev pub with_mailbox : Option Mailbox → Members → Members
with_mailbox None ms = ms
with_mailbox (Some m) ms = member (codes "mailbox") (mailbox_data m) ms

-- [number, control byte]
abbrev pub manager_data : ProcessManager → Data
manager_data m = array (item (number m.number) (item (number m.control) no_items))

-- [index, subindex, bits, value]
abbrev pub parameter_data : Parameter → Data
parameter_data q = array (item (number q.index) (item (number q.subindex) (item (number (bit_count q.size)) (item (number q.value) no_items))))

-- only a table for hardware has the key `init`
abbrev pub with_init : (hardware : Bool) → List Parameter → Members → Members
with_init false qs ms = ms
with_init true qs ms = member (codes "init") (array_of_all parameter_data qs) ms

-- The keys of a type for hardware that stand before `in_start`, the one before `out_start`, the one before `txpdo`, and its revision,
-- unless any fits. A type of another table has the last alone.
abbrev pub with_firmware : Option Hardware → Members → Members
with_firmware None ms = ms
with_firmware (Some h) ms =
    member (codes "emergency") (boolean h.has_emergency)
    (member (codes "firmware") (boolean h.has_firmware)
    (member (codes "fixed") (boolean h.is_fixed)
    (member (codes "fmmus") (number h.fmmus)
    (member (codes "in_manager") (manager_data h.in_manager) ms))))

abbrev pub with_out_manager : Option Hardware → Members → Members
with_out_manager None ms = ms
with_out_manager (Some h) ms = member (codes "out_manager") (manager_data h.out_manager) ms

abbrev pub with_slow : Option Hardware → Members → Members
with_slow None ms = ms
with_slow (Some h) ms = member (codes "slow") (number h.slow) ms

abbrev pub with_revision : (any : Bool) → ℕ → Members → Members
with_revision true revision ms = ms
with_revision false revision ms = member (codes "revision") (number revision) ms

-- the keys of each element in ascending order, as a document has them
abbrev pub type_members : TypeRow → Members
type_members t =
    with_firmware t.hardware
    (member (codes "in_start") (number t.process.in_start)
    (with_init (is_some t.hardware) t.init
    (member (codes "lrw") (boolean t.lrw)
    (with_mailbox t.mailbox
    (member (codes "name") (string t.name)
    (with_out_manager t.hardware
    (member (codes "out_start") (number t.process.out_start)
    (member (codes "product") (number t.device.product)
    (with_revision (takes_any_revision t.hardware) t.device.revision
    (member (codes "rxpdo") (array_of_all pdo_data t.process.outputs)
    (with_slow t.hardware
    (member (codes "txpdo") (array_of_all pdo_data t.process.inputs)
    (member (codes "vendor") (number t.device.vendor) no_members)))))))))))))

-- version 1 has no key `unit`
abbrev pub unit_members : Version → ℕ → Members
unit_members One unit = no_members
unit_members Two unit = member (codes "unit") (number unit) no_members

abbrev pub type_name : List TypeRow → ℕ → List ℕ
type_name ts k = option_map_or (λ (t : TypeRow). t.name) (slice_get ts k) []

abbrev pub slave_members : Format → List TypeRow → SlaveRow → Members
slave_members f ts s =
    member (codes "in") (array_of_all number s.inputs)
    (with_init f.hardware s.init
    (member (codes "name") (string s.name)
    (member (codes "out") (array_of_all number s.outputs)
    (member (codes "serial") (number s.serial)
    (member (codes "type") (string (type_name ts s.type_index))
    (unit_members f.version s.unit))))))

abbrev pub direction_text : Direction → List ℕ
direction_text Out = codes "out"
direction_text In = codes "in"

-- only a table for hardware has the key `signed`
abbrev pub signed_members : (hardware signed : Bool) → Members
signed_members false signed = no_members
signed_members true signed = member (codes "signed") (boolean signed) no_members

abbrev pub variable_members : (hardware : Bool) → VariableRow → Members
variable_members hardware w =
    member (codes "bits") (number w.bits)
    (member (codes "dir") (string (direction_text w.direction))
    (member (codes "name") (string w.name) (signed_members hardware w.signed)))

-- [variable bit, entry bit, count]
abbrev pub bits_data : LinkBits → Data
bits_data b = array (item (number b.variable_bit) (item (number b.entry_bit) (item (number b.count) no_items)))

abbrev pub slave_name : List SlaveRow → ℕ → List ℕ
slave_name ss k = option_map_or (λ (s : SlaveRow). s.name) (slice_get ss k) []

abbrev pub variable_name : List VariableRow → ℕ → List ℕ
variable_name ws k = option_map_or (λ (w : VariableRow). w.name) (slice_get ws k) []

abbrev pub link_members : List SlaveRow → List VariableRow → LinkRow → Members
link_members ss ws l =
    member (codes "bits") (bits_data l.bits)
    (member (codes "index") (number l.index)
    (member (codes "slave") (string (slave_name ss l.slave))
    (member (codes "sub") (number l.subindex)
    (member (codes "var") (string (variable_name ws l.variable)) no_members))))

abbrev pub version_number : Version → ℕ
version_number One = 1
version_number Two = 2

unfoldable pub document_of : Contents → Members
document_of c =
    member (codes "hardware") (boolean c.hardware)
    (member (codes "link") (array_of_all (λ l. table (link_members c.slaves c.variables l)) c.links)
    (member (codes "slave") (array_of_all (λ s. table (slave_members (format_of c) c.types s)) c.slaves)
    (member (codes "type") (array_of_all (λ t. table (type_members t)) c.types)
    (member (codes "variable") (array_of_all (λ w. table (variable_members c.hardware w)) c.variables)
    (member (codes "version") (number (version_number c.version)) no_members)))))
