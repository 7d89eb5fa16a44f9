-- Uploads from and downloads to the object dictionary (ETG.1000.6, "SDO services", expedited transfer; "Abort SDO transfer",
-- the table of abort codes; which of several aborts comes is the profile of the simulated slaves).
use Rattle.std.specs.Prelude.{ℕ, ◌-◌, ◌==◌, ◌&&◌, ◌||◌, not, List, [], ◌∷◌, length, take, Bool, true, if◌then◌else◌, nat_le, slice_get, slice_set, Option, Some, None, is_some, unwrap_or, Result, Ok, Err}
use Rattle.std.specs.List.{list_any}
use Rattle.ec_device.specs.declared.slave_type.Pdo.{Pdo}
use Rattle.ec_device.specs.Hardware.{is_fixed}
use Rattle.ec_device.specs.Objects.{pdo_at, bits_assigned}
use Rattle.ec_coe.specs.Messages.{size_number}
use Rattle.ec_coe.specs.declared.value.SdoValue.{SdoValue}
use Rattle.ec_coe.specs.declared.abort_code.AbortCode.{AbortCode}
use Rattle.ec_coe.specs.declared.abort_code.AbortCode.TheVariants.{InvalidCommand, ReadOnly, NoObject, WrongLength, NoSubindex, InvalidValue, WrongState}
use Rattle.ec_coe.specs.Objects.{Assignment, Dictionary, byte_value, output_assignment, is_assignment, parameter_of, own_values}

-- the numbers of the abort codes
abbrev pub abort_number : AbortCode → ℕ
abort_number InvalidCommand = 0x05040001
abort_number ReadOnly = 0x06010002
abort_number NoObject = 0x06020000
abort_number WrongLength = 0x06070010
abort_number NoSubindex = 0x06090011
abort_number InvalidValue = 0x06090030
abort_number WrongState = 0x08000022

-- ---- upload

abbrev pub value_or_abort : Option SdoValue → Result SdoValue AbortCode
value_or_abort None = Err NoSubindex
value_or_abort (Some value) = Ok value

abbrev pub value_at : Option (List SdoValue) → ℕ → Result SdoValue AbortCode
value_at None subindex = Err NoObject
value_at (Some values) subindex = value_or_abort (slice_get values subindex)

-- the value of a parameter, by its place
abbrev pub kept_value : List SdoValue → ℕ → SdoValue
kept_value values place = unwrap_or (slice_get values place) (byte_value 0)

abbrev pub uploaded_by : Dictionary → ℕ → ℕ → Option ℕ → Result SdoValue AbortCode
uploaded_by d index subindex None = value_at (own_values d index) subindex
uploaded_by d index subindex (Some place) = Ok (kept_value d.values place)

-- the value at an index and a subindex, a parameter's as it was downloaded last: no object, no subindex, or it
unfoldable pub uploaded : Dictionary → ℕ → ℕ → Result SdoValue AbortCode
uploaded d index subindex = uploaded_by d index subindex (parameter_of d.kind index subindex)

-- ---- download

-- whether no number stands twice in a list
abbrev pub contains : List ℕ → ℕ → Bool
contains xs x = list_any (λ y. y == x) xs

abbrev pub distinct : List ℕ → Bool
distinct [] = true
distinct (x ∷ xs) = not (contains xs x) && distinct xs

-- how many bits a direction may have
abbrev pub max_bits : ℕ
max_bits = 2048

-- a count: as many slots as the type has PDOs of the direction, distinct, with at most 2048 bits
abbrev pub takes_count : List Pdo → Assignment → ℕ → Bool
takes_count ps a n = nat_le n (length ps) && (distinct (take n a.slots) && nat_le (bits_assigned ps (take n a.slots)) max_bits)

-- an index: that of a PDO of the direction
abbrev pub takes_index : List Pdo → ℕ → Bool
takes_index ps index = is_some (pdo_at ps index)

abbrev pub takes_value : List Pdo → Assignment → ℕ → ℕ → Bool
takes_value ps a subindex number = if subindex == 0 then takes_count ps a number else takes_index ps number

abbrev pub with_value : Assignment → ℕ → ℕ → Assignment
with_value a subindex number =
    if subindex == 0 then record { slots = a.slots; count = number } else record { slots = slice_set a.slots (subindex - 1) number; count = a.count }

-- only in PREOP, and an index only while the count is 0
abbrev pub is_open : Bool → Assignment → ℕ → Bool
is_open in_preop a subindex = in_preop && ((subindex == 0) || (a.count == 0))

-- a download to an assignment object
unfoldable pub assignment_written : Bool → List Pdo → Assignment → ℕ → ℕ → Result Assignment AbortCode
assignment_written in_preop ps a subindex number =
    if not (is_open in_preop a subindex) then Err WrongState
    else (if not (takes_value ps a subindex number) then Err InvalidValue
    else Ok (with_value a subindex number))

abbrev pub with_outs : Dictionary → Result Assignment AbortCode → Result Dictionary AbortCode
with_outs d (Ok a) = Ok (record d { outs = a })
with_outs d (Err code) = Err code

abbrev pub with_ins : Dictionary → Result Assignment AbortCode → Result Dictionary AbortCode
with_ins d (Ok a) = Ok (record d { ins = a })
with_ins d (Err code) = Err code

-- a parameter takes each value of its length
abbrev pub parameter_written : Dictionary → SdoValue → ℕ → Result Dictionary AbortCode
parameter_written d value place =
    if size_number value.size == size_number (kept_value d.values place).size then Ok (record d { values = slice_set d.values place value }) else Err WrongLength

-- Any other value that is there is replaced, if it takes downloads and has the length. Those that assign PDOs take them, if the
-- device lets its assignment be written.
abbrev pub object_written : Bool → Dictionary → ℕ → ℕ → SdoValue → Result SdoValue AbortCode → Result Dictionary AbortCode
object_written in_preop d index subindex value (Err code) = Err code
object_written in_preop d index subindex value (Ok old) =
    if not (is_assignment index) || is_fixed d.kind.hardware then Err ReadOnly
    else (if not (size_number value.size == size_number old.size) then Err WrongLength
    else (if index == output_assignment
    then with_outs d (assignment_written in_preop d.kind.outputs d.outs subindex value.number)
    else with_ins d (assignment_written in_preop d.kind.inputs d.ins subindex value.number)))

abbrev pub written_by : Bool → Dictionary → ℕ → ℕ → SdoValue → Option ℕ → Result Dictionary AbortCode
written_by in_preop d index subindex value None = object_written in_preop d index subindex value (value_at (own_values d index) subindex)
written_by in_preop d index subindex value (Some place) = parameter_written d value place

-- The dictionary after a download, or the first abort that fits: no object, no subindex, read-only, another length, another
-- state than PREOP or an index while the count isn't 0, a value that isn't taken. A parameter takes each value of its length, in
-- each state.
unfoldable pub downloaded : Bool → Dictionary → ℕ → ℕ → SdoValue → Result Dictionary AbortCode
downloaded in_preop d index subindex value = written_by in_preop d index subindex value (parameter_of d.kind index subindex)
