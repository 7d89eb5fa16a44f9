-- The elements of the sections, in the order of their tests: keys, values key by key, doubles, references.
use Rattle.std.specs.Prelude.{List, [], ℕ, Option, Some, None, ◌==◌, ◌%◌, Bool, true, false, not, nat_le, ◌&&◌, ◌||◌, codes, is_some, is_none, unwrap_or, slice_get, Result, Ok}
use Rattle.std.specs.List.{list_any, list_all}
use Rattle.std.specs.Str.{bytes_eq}
use Rattle.std.specs.Option.{ok_or}
use Rattle.toml.specs.Data.{Data, Items, Members, get_member}
use Rattle.toml.specs.Parse.{parse_document}
use Rattle.ec_table.specs.declared.fault.Fault.{Fault}
use Rattle.ec_table.specs.declared.fault.Fault.TheVariants.{Toml, BadKey, BadValue, TwiceNamed, UnknownName}
use Rattle.ec_table.specs.declared.fault.Position.{Position}
use Rattle.ec_table.specs.declared.fault.Section.TheVariants as section
use Rattle.ec_table.specs.declared.described.Manner.{Manner}
use Rattle.ec_table.specs.declared.rows.Format.{Format}
use Rattle.ec_device.specs.declared.slave_type.Device.{Device}
use Rattle.ec_device.specs.declared.slave_type.Mailbox.{Mailbox}
use Rattle.ec_device.specs.declared.hardware.Hardware.{Hardware}
use Rattle.ec_device.specs.declared.parameter.Parameter.{Parameter}
use Rattle.ec_device.specs.Hardware.{usual_outputs, usual_inputs, are_pins, is_assignable}
use Rattle.ec_device.specs.Types.{first_output_index, first_input_index}
use Rattle.ec_table.specs.declared.rows.ProcessData.{ProcessData}
use Rattle.ec_table.specs.declared.rows.TypeRow.{TypeRow}
use Rattle.ec_table.specs.declared.rows.SlaveRow.{SlaveRow}
use Rattle.ec_table.specs.declared.rows.VariableRow.{VariableRow}
use Rattle.ec_table.specs.declared.rows.LinkBits.{LinkBits}
use Rattle.ec_table.specs.declared.rows.LinkRow.{LinkRow}
use Rattle.ec_table.specs.declared.keys.Shape.TheVariants as shape
use Rattle.ec_table.specs.declared.slaves.Written.{Written}
use Rattle.ec_table.specs.Contents.{Contents}
use Rattle.ec_table.specs.InOrder.{members_in, rows_after}
use Rattle.ec_table.specs.Names.{is_named, index_named}
use Rattle.ec_table.specs.Parameters.{parameters_in, are_taken}
use Rattle.ec_table.specs.Pdos.{last_output_index, last_input_index, pdos_in, indices_of, has_twice, numbers_in}
use Rattle.ec_table.specs.Fields.{◌>>=◌, must, keys_are, name_in, direction_in, mailbox_in, section_in, number_in, number_or_0, truth_in, format_in, manager_in, fmmus_in, link_bits_in}

-- ---- types

-- vendor, product and revision, by the values under their keys; a revision that is left out is 0
unfoldable pub device_in : Position → Option Data → Option Data → Option Data → Result Device Fault
device_in p vendor_written product_written revision_written = do
  vendor ← number_in p 0 4294967295 vendor_written
  product ← number_in p 0 4294967295 product_written
  revision ← number_or_0 p 4294967295 revision_written
  Ok (record { vendor = vendor; product = product; revision = revision })

-- where the process data begin, 0 if it is left out, and their objects, by the values under `out_start`, `in_start`, `rxpdo` and `txpdo`
unfoldable pub process_in : Position → Option Data → Option Data → Option Data → Option Data → Result ProcessData Fault
process_in p out_written in_written rxpdo txpdo = do
  out_start ← number_or_0 p 65535 out_written
  in_start ← number_or_0 p 65535 in_written
  outputs ← pdos_in p first_output_index last_output_index rxpdo
  inputs ← pdos_in p first_input_index last_input_index txpdo
  Ok (record { out_start = out_start; in_start = in_start; outputs = outputs; inputs = inputs })

-- some object stands twice in a direction
abbrev pub process_twice : ProcessData → Bool
process_twice d = has_twice (indices_of d.outputs) || has_twice (indices_of d.inputs)

-- whether a device's assignment is fixed, and how a simulated slave behaves, by the values under `fixed`, `slow` and `emergency`
unfoldable pub manner_in : Position → Option Data → Option Data → Option Data → Result Manner Fault
manner_in p fixed_written slow_written emergency_written = do
  is_fixed ← truth_in p false fixed_written
  slow ← number_or_0 p 100 slow_written
  has_emergency ← truth_in p false emergency_written
  Ok (record { is_fixed = is_fixed; slow = slow; has_emergency = has_emergency })

-- what a type for hardware says of real devices, by its manner and the values under `out_manager`, `in_manager`, `firmware`, `fmmus` and
-- `revision`: also whether its outputs begin at the pins, and whether any revision fits
unfoldable pub described : Position → ProcessData → Manner → Option Data → Option Data → Option Data → Option Data → Option Data → Result Hardware Fault
described p process manner out_written in_written firmware_written fmmus_written revision_written = do
  out_manager ← manager_in p usual_outputs out_written
  in_manager ← manager_in p usual_inputs in_written
  has_firmware ← truth_in p true firmware_written
  fmmus ← fmmus_in p fmmus_written
  Ok (record {
    out_manager = out_manager;
    in_manager = in_manager;
    has_pins = are_pins process.out_start;
    has_firmware = has_firmware;
    is_fixed = manner.is_fixed;
    slow = manner.slow;
    has_emergency = manner.has_emergency;
    fmmus = fmmus;
    any_revision = is_none revision_written;
  })

-- a type of another table says nothing of them
abbrev pub described_if : (hardware : Bool) → Result Hardware Fault → Result (Option Hardware) Fault
described_if false read = Ok None
described_if true read = read >>= (λ h. Ok (Some h))

-- by the values under its keys
abbrev pub hardware_by : Format → Position → ProcessData → (out_manager in_manager firmware fixed slow emergency fmmus revision : Option Data) → Result (Option Hardware) Fault
hardware_by f p process out_manager in_manager firmware fixed slow emergency fmmus revision =
    described_if f.hardware (manner_in p fixed slow emergency >>= (λ manner. described p process manner out_manager in_manager firmware fmmus revision))

abbrev pub hardware_in : Format → Position → ProcessData → Members → Result (Option Hardware) Fault
hardware_in f p process ms =
    hardware_by f p process (get_member (codes "out_manager") ms) (get_member (codes "in_manager") ms) (get_member (codes "firmware") ms) (get_member (codes "fixed") ms)
    (get_member (codes "slow") ms) (get_member (codes "emergency") ms) (get_member (codes "fmmus") ms) (get_member (codes "revision") ms)

-- whether a device can be so: each direction has a manager of its own and of its mode, a mailbox has managers 0 and 1 and firmware, and
-- a fixed assignment is read by a mailbox
abbrev pub can_be : Option Mailbox → Hardware → Bool
can_be mailbox h =
    not (h.out_manager.number == h.in_manager.number)
    && ((h.out_manager.control % 16 == 4) && (h.in_manager.control % 16 == 0))
    && (is_none mailbox || (nat_le 2 h.out_manager.number && (nat_le 2 h.in_manager.number && h.has_firmware)))
    && (not h.is_fixed || is_some mailbox)

-- a type that says nothing can
abbrev pub can_be_if : Option Mailbox → Option Hardware → Bool
can_be_if mailbox None = true
can_be_if mailbox (Some h) = can_be mailbox h

-- whether a device can be what its type says, and can take what is downloaded to it
abbrev pub is_possible : Option Mailbox → Option Hardware → List Parameter → Bool
is_possible mailbox hardware init = can_be_if mailbox hardware && are_taken mailbox init

-- the type of this name that an element states; whether another type has the name
unfoldable pub type_named : Format → Position → Members → List ℕ → Bool → Result TypeRow Fault
type_named f p ms name is_taken = do
  device ← device_in p (get_member (codes "vendor") ms) (get_member (codes "product") ms) (get_member (codes "revision") ms)
  mailbox ← mailbox_in p (get_member (codes "mailbox") ms)
  process ← process_in p (get_member (codes "out_start") ms) (get_member (codes "in_start") ms) (get_member (codes "rxpdo") ms) (get_member (codes "txpdo") ms)
  lrw ← truth_in p true (get_member (codes "lrw") ms)
  hardware ← hardware_in f p process ms
  init ← parameters_in p (get_member (codes "init") ms)
  _ ← must (not (is_taken || process_twice process)) (TwiceNamed p)
  _ ← must (is_possible mailbox hardware init) (BadValue p)
  Ok (record { name = name; device = device; mailbox = mailbox; process = process; lrw = lrw; hardware = hardware; init = init })

-- the type that an element states, after those found
unfoldable pub type_at : Format → Position → Members → List TypeRow → Result TypeRow Fault
type_at f p ms found = do
  _ ← must (keys_are shape.Type f ms) (BadKey p)
  name ← name_in p (get_member (codes "name") ms)
  type_named f p ms name (is_named (λ (t : TypeRow). t.name) name found)

abbrev pub type_element : Format → ℕ → Data → List TypeRow → Result TypeRow Fault
type_element f n d found =
    let p : Position = record { section = section.Type; element = n } in
    members_in p d >>= (λ ms. type_at f p ms found)

-- ---- slaves

abbrev pub all_in : List ℕ → List ℕ → Bool
all_in xs ys = list_all (λ x. list_any (λ y. y == x) ys) xs

abbrev pub same_list : List ℕ → List ℕ → Bool
same_list xs ys = bytes_eq xs ys

-- a slave that doesn't let itself be assigned has all objects of its type in order, and one without a mailbox gets no downloads
abbrev pub suits : TypeRow → SlaveRow → Bool
suits t s =
    (is_assignable t.mailbox t.hardware || (same_list s.outputs (indices_of t.process.outputs) && same_list s.inputs (indices_of t.process.inputs)))
    && are_taken t.mailbox s.init

-- the assigned objects are the type's, and the slave suits its type
unfoldable pub assigned_in : Position → TypeRow → SlaveRow → Result SlaveRow Fault
assigned_in p t s = do
  _ ← must (all_in s.outputs (indices_of t.process.outputs) && all_in s.inputs (indices_of t.process.inputs)) (UnknownName p)
  _ ← must (suits t s) (BadValue p)
  Ok s

-- the slave of this name and type, with what its element writes; left out, `out` and `in` are all objects of the type in order
unfoldable pub slave_of_type : List TypeRow → Position → List ℕ → List ℕ → Written → Result SlaveRow Fault
slave_of_type types p name type_name w = do
  at ← ok_or (index_named (λ (t : TypeRow). t.name) type_name types) (UnknownName p)
  t ← ok_or (slice_get types at) (UnknownName p)
  assigned_in p t (record { name = name; type_index = at; outputs = unwrap_or w.outputs (indices_of t.process.outputs); inputs = unwrap_or w.inputs (indices_of t.process.inputs); serial = w.serial; unit = w.unit; init = w.init })

-- what a slave's element states beside names, by the values under `out`, `in`, `serial`, `unit` and `init`
unfoldable pub written_in : Position → Option Data → Option Data → Option Data → Option Data → Option Data → Result Written Fault
written_in p out_written in_written serial_written unit_written init_written = do
  outputs ← numbers_in p first_output_index last_output_index out_written
  inputs ← numbers_in p first_input_index last_input_index in_written
  serial ← number_or_0 p 4294967295 serial_written
  unit ← number_or_0 p 63 unit_written
  init ← parameters_in p init_written
  Ok (record { outputs = outputs; inputs = inputs; serial = serial; unit = unit; init = init })

-- the slave of this name that an element states; whether another slave has the name
unfoldable pub slave_named : List TypeRow → Position → Members → List ℕ → Bool → Result SlaveRow Fault
slave_named types p ms name is_taken = do
  type_name ← name_in p (get_member (codes "type") ms)
  outputs ← numbers_in p first_output_index last_output_index (get_member (codes "out") ms)
  inputs ← numbers_in p first_input_index last_input_index (get_member (codes "in") ms)
  serial ← number_or_0 p 4294967295 (get_member (codes "serial") ms)
  unit ← number_or_0 p 63 (get_member (codes "unit") ms)
  init ← parameters_in p (get_member (codes "init") ms)
  _ ← must (not (is_taken || (has_twice (unwrap_or outputs []) || has_twice (unwrap_or inputs [])))) (TwiceNamed p)
  slave_of_type types p name type_name (record { outputs = outputs; inputs = inputs; serial = serial; unit = unit; init = init })

-- the slave that an element states, after those found
unfoldable pub slave_at : Format → List TypeRow → Position → Members → List SlaveRow → Result SlaveRow Fault
slave_at f types p ms found = do
  _ ← must (keys_are shape.Slave f ms) (BadKey p)
  name ← name_in p (get_member (codes "name") ms)
  slave_named types p ms name (is_named (λ (s : SlaveRow). s.name) name found)

abbrev pub slave_element : Format → List TypeRow → ℕ → Data → List SlaveRow → Result SlaveRow Fault
slave_element f types n d found =
    let p : Position = record { section = section.Slave; element = n } in
    members_in p d >>= (λ ms. slave_at f types p ms found)

-- ---- variables

-- the variable of this name, if no other has it, by the values under `dir`, `bits` and `signed`
abbrev pub variable_named : Position → Option Data → Option Data → Option Data → List ℕ → Bool → Result VariableRow Fault
variable_named p dir bits_written signed_written name is_taken = do
  direction ← direction_in p dir
  bits ← number_in p 1 64 bits_written
  signed ← truth_in p false signed_written
  _ ← must (not is_taken) (TwiceNamed p)
  Ok (record { name = name; direction = direction; bits = bits; signed = signed })

-- the variable that an element states, after those found
unfoldable pub variable_at : Format → Position → Members → List VariableRow → Result VariableRow Fault
variable_at f p ms found = do
  _ ← must (keys_are shape.Variable f ms) (BadKey p)
  name ← name_in p (get_member (codes "name") ms)
  variable_named p (get_member (codes "dir") ms) (get_member (codes "bits") ms) (get_member (codes "signed") ms) name (is_named (λ (w : VariableRow). w.name) name found)

abbrev pub variable_element : Format → ℕ → Data → List VariableRow → Result VariableRow Fault
variable_element f n d found =
    let p : Position = record { section = section.Variable; element = n } in
    members_in p d >>= (λ ms. variable_at f p ms found)

-- ---- links

-- all bits of a variable, from bit 0 of both
abbrev pub all_bits : VariableRow → LinkBits
all_bits w = record { variable_bit = 0; entry_bit = 0; count = w.bits }

-- the link that an element states; left out, `bits` are all of the variable's
unfoldable pub link_at : Format → List SlaveRow → List VariableRow → Position → Members → Result LinkRow Fault
link_at f slaves variables p ms = do
  _ ← must (keys_are shape.Link f ms) (BadKey p)
  variable_name ← name_in p (get_member (codes "var") ms)
  slave_name ← name_in p (get_member (codes "slave") ms)
  index ← number_in p 1 65535 (get_member (codes "index") ms)
  subindex ← number_in p 0 255 (get_member (codes "sub") ms)
  bits ← link_bits_in p (get_member (codes "bits") ms)
  variable ← ok_or (index_named (λ (w : VariableRow). w.name) variable_name variables) (UnknownName p)
  w ← ok_or (slice_get variables variable) (UnknownName p)
  slave ← ok_or (index_named (λ (s : SlaveRow). s.name) slave_name slaves) (UnknownName p)
  Ok (record { variable = variable; slave = slave; index = index; subindex = subindex; bits = unwrap_or bits (all_bits w) })

abbrev pub link_element : Format → List SlaveRow → List VariableRow → ℕ → Data → List LinkRow → Result LinkRow Fault
link_element f slaves variables n d found =
    let p : Position = record { section = section.Link; element = n } in
    members_in p d >>= (λ ms. link_at f slaves variables p ms)

-- ---- the document

abbrev pub top : Position
top = record { section = section.Top; element = 0 }

-- the table that the elements of the sections state
unfoldable pub table_of_sections : Format → Items → Items → Items → Items → Result Contents Fault
table_of_sections format type_items slave_items variable_items link_items = do
  types ← rows_after (type_element format) [] 0 type_items
  slaves ← rows_after (slave_element format types) [] 0 slave_items
  variables ← rows_after (variable_element format) [] 0 variable_items
  links ← rows_after (link_element format slaves variables) [] 0 link_items
  Ok (record { version = format.version; hardware = format.hardware; types = types; slaves = slaves; variables = variables; links = links; full = false })

-- the format of a document
abbrev pub stated_format : Members → Result Format Fault
stated_format ms = format_in top (get_member (codes "version") ms) (get_member (codes "hardware") ms)

-- the table that a document states: its format, its keys, its sections, then each section's elements
unfoldable pub table_of_document : Members → Result Contents Fault
table_of_document ms = do
  format ← stated_format ms
  _ ← must (keys_are shape.Document format ms) (BadKey top)
  type_items ← section_in top (get_member (codes "type") ms)
  slave_items ← section_in top (get_member (codes "slave") ms)
  variable_items ← section_in top (get_member (codes "variable") ms)
  link_items ← section_in top (get_member (codes "link") ms)
  table_of_sections format type_items slave_items variable_items link_items

-- the table that a text states
unfoldable pub table_of : List ℕ → Result Contents Fault
table_of text = ok_or (parse_document text) Toml >>= table_of_document
