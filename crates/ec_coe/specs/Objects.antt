-- The object dictionary of a slave (ETG.1000.6, "Object dictionary"): its identity (0x1018), its PDOs (0x1600 to 0x17FF,
-- 0x1A00 to 0x1BFF), and which of them are assigned (0x1C12 and 0x1C13, "Sync manager PDO assignment"). A full slave, whose
-- type has a face, has some more objects behind these, which usual masters read. A slave whose type has downloads of its own (`init`
-- of a link table) has the objects that these name.
use Rattle.std.specs.Prelude.{ℕ, ◌+◌, ◌*◌, ◌%◌, ◌^◌, ◌==◌, ◌≡◌, ◌&&◌, ◌||◌, not, List, [], ◌∷◌, ◌++◌, length, map, take, Bool, true, false, if◌then◌else◌, nat_lt, nat_le, slice_index, Option, Some, None, is_some, option_map}
use Rattle.std.specs.List.{list_any}
use Rattle.std.specs.Option.{option_or}
use Rattle.ec_device.specs.declared.slave_type.Entry.{Entry}
use Rattle.ec_device.specs.declared.slave_type.Pdo.{Pdo}
use Rattle.ec_device.specs.declared.slave_type.Identity.{Identity}
use Rattle.ec_device.specs.declared.slave_type.Mailbox.{Mailbox}
use Rattle.ec_device.specs.declared.slave_type.Face.{Face}
use Rattle.ec_device.specs.declared.parameter.Parameter.{Parameter}
use Rattle.ec_device.specs.Types.{SlaveKind}
use Rattle.ec_device.specs.Objects.{pdo_at}
use Rattle.ec_device.specs.Parameters.{parameter_at}
use Rattle.ec_coe.specs.declared.value.ValueSize.{ValueSize}
use Rattle.ec_coe.specs.declared.value.ValueSize.TheVariants.{One, Two, Three, Four}
use Rattle.ec_coe.specs.declared.value.SdoValue.{SdoValue}
use Rattle.ec_coe.specs.Messages.{message_length, size_number}

-- the slots of an assignment object, and how many of them count
pub record Assignment : Type 0 where
  pub slots : List ℕ
  pub count : ℕ

pub record Dictionary : Type 0 where
  pub kind : SlaveKind
  pub identity : Identity
  -- the outputs, 0x1C12, and the inputs, 0x1C13
  pub outs : Assignment
  pub ins : Assignment
  -- the values of the parameters: one for each download of the type's `init`; the first to an object has the object's
  pub values : List SdoValue

-- each direction has as many slots as the type has PDOs of it, and there are as many values as downloads
pub record HasSlots (kind : SlaveKind) (outs ins : Assignment) (values : List SdoValue) : Type 0 where
  pub outputs : length outs.slots ≡ length kind.outputs
  pub inputs : length ins.slots ≡ length kind.inputs
  pub parameters : length values ≡ length kind.init

-- the indices of the PDOs that are assigned
abbrev pub assigned : Assignment → List ℕ
assigned a = take a.count a.slots

abbrev pub indices : List Pdo → List ℕ
indices ps = map (λ p. p.index) ps

-- every PDO of a direction, in order, as the power comes on
abbrev pub all_assigned : List Pdo → Assignment
all_assigned ps = record { slots = indices ps; count = length ps }

-- ---- the objects

abbrev pub identity_object : ℕ
identity_object = 0x1018

abbrev pub output_assignment : ℕ
output_assignment = 0x1C12

abbrev pub input_assignment : ℕ
input_assignment = 0x1C13

abbrev pub byte_value : ℕ → SdoValue
byte_value n = record { size = One; number = n }

abbrev pub word_value : ℕ → SdoValue
word_value n = record { size = Two; number = n }

abbrev pub long_value : ℕ → SdoValue
long_value n = record { size = Four; number = n }

-- as many of four bytes of data as the size says
abbrev pub value_of : ValueSize → ℕ → SdoValue
value_of size data_bytes = record { size = size; number = data_bytes % 2 ^ (8 * size_number size) }

-- subindex 0: how many; 1 to 4: vendor, product, revision, serial number
abbrev pub identity_values : Identity → List SdoValue
identity_values i = byte_value 4 ∷ long_value i.vendor ∷ long_value i.product ∷ long_value i.revision ∷ long_value i.serial ∷ []

-- subindex 0: how many count; 1 and above: the slots
abbrev pub assignment_values : Assignment → List SdoValue
assignment_values a = byte_value a.count ∷ map word_value a.slots

-- an entry of a PDO: its index in the top 16 bits, then its subindex, then its length in bits
abbrev pub entry_number : Entry → ℕ
entry_number e = 65536 * e.index + 256 * e.subindex + e.bits

-- subindex 0: how many entries; 1 and above: the entries
abbrev pub pdo_values : Pdo → List SdoValue
pdo_values p = byte_value (length p.entries) ∷ map (λ e. long_value (entry_number e)) p.entries

abbrev pub has_some : {X : Type 0} → List X → Bool
has_some [] = false
has_some (x ∷ xs) = true

-- ---- the objects that a full slave has besides

abbrev pub device_type_object : ℕ
device_type_object = 0x1000

abbrev pub device_name_object : ℕ
device_name_object = 0x1008

abbrev pub hardware_version_object : ℕ
hardware_version_object = 0x1009

abbrev pub software_version_object : ℕ
software_version_object = 0x100A

abbrev pub manager_types_object : ℕ
manager_types_object = 0x1C00

-- device type 0: no device profile
abbrev pub device_type_values : List SdoValue
device_type_values = long_value 0 ∷ []

-- version "1"
abbrev pub version_values : List SdoValue
version_values = byte_value 0x31 ∷ []

-- what each sync manager is for ("Sync manager communication type"): subindex 0: how many there are; 1 to 4: mailbox out 1,
-- mailbox in 2, outputs 3, inputs 4
abbrev pub manager_types_values : List SdoValue
manager_types_values = byte_value 4 ∷ byte_value 1 ∷ byte_value 2 ∷ byte_value 3 ∷ byte_value 4 ∷ []

-- how many bytes an expedited transfer carries at most
abbrev pub max_expedited : ℕ
max_expedited = 4

abbrev pub is_long : List ℕ → Bool
is_long name = nat_lt max_expedited (length name)

abbrev pub size_of : ℕ → ValueSize
size_of n = if n == 1 then One else (if n == 2 then Two else (if n == 3 then Three else Four))

-- the first four letters as a number, the first lowest; a letter past the end counts 0
abbrev pub letters_number : List ℕ → ℕ
letters_number name = slice_index name 0 + 256 * slice_index name 1 + 65536 * slice_index name 2 + 16777216 * slice_index name 3

-- a name: its letters; or the number of letters of a long name, which come by a normal transfer
abbrev pub name_value : List ℕ → SdoValue
name_value name = if is_long name then long_value (length name) else record { size = size_of (length name); number = letters_number name }

-- whether the letters of a name fit a mailbox of so many bytes, behind a message
abbrev pub name_fits : List ℕ → ℕ → Bool
name_fits name room = nat_le (message_length + length name) room

-- a long name is there only if it fits
abbrev pub name_values : List ℕ → ℕ → Option (List SdoValue)
name_values name room = if not (is_long name) || name_fits name room then Some (name_value name ∷ []) else None

-- the object with an index of those that a face shows, through a mailbox of so many bytes
abbrev pub face_values : Face → ℕ → ℕ → Option (List SdoValue)
face_values face room index =
    if index == device_type_object then Some device_type_values
    else (if index == device_name_object then name_values face.name room
    else (if index == hardware_version_object then Some version_values
    else (if index == software_version_object then Some version_values
    else (if index == manager_types_object then Some manager_types_values else None))))

-- how many bytes the mailbox has through which the slave sends; none has no room
abbrev pub send_room : Option Mailbox → ℕ
send_room None = 0
send_room (Some mailbox) = mailbox.send_size

abbrev pub face_values_of : Option Face → ℕ → ℕ → Option (List SdoValue)
face_values_of None room index = None
face_values_of (Some face) room index = face_values face room index

-- ---- all of them

-- The values of the object with an index, by subindex, parameters aside, if there is one. There is an assignment object if the type
-- has PDOs of its direction.
unfoldable pub object_values : Dictionary → ℕ → Option (List SdoValue)
object_values d index =
    if index == identity_object then Some (identity_values d.identity)
    else (if index == output_assignment then (if has_some d.kind.outputs then Some (assignment_values d.outs) else None)
    else (if index == input_assignment then (if has_some d.kind.inputs then Some (assignment_values d.ins) else None)
    else option_or (option_map pdo_values (pdo_at (d.kind.outputs ++ d.kind.inputs) index)) (face_values_of d.kind.face (send_room d.kind.mailbox) index)))

-- ---- parameters

-- the objects that assign PDOs
abbrev pub is_assignment : ℕ → Bool
is_assignment index = (index == output_assignment) || (index == input_assignment)

-- Each object that the type's `init` downloads to is in the dictionary, and keeps what is downloaded to it: the place of its value.
-- Those that assign PDOs stay what they are; and a full slave has no parameters, as no table gives it any.
abbrev pub parameter_of : SlaveKind → (index subindex : ℕ) → Option ℕ
parameter_of kind index subindex = if is_assignment index || is_some kind.face then None else parameter_at kind.init index subindex

-- some parameter is a value of the object with this index
abbrev pub has_parameters : SlaveKind → ℕ → Bool
has_parameters kind index = not (is_assignment index || is_some kind.face) && list_any (λ (q : Parameter). q.index == index) kind.init

abbrev pub no_values_if : Bool → Option (List SdoValue)
no_values_if true = Some []
no_values_if false = None

-- the values of an object beside its parameters; an object that is there for its parameters alone has none
abbrev pub own_values : Dictionary → ℕ → Option (List SdoValue)
own_values d index = option_or (object_values d index) (no_values_if (has_parameters d.kind index))
