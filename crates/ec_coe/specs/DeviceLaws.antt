-- Real devices and slaves like them, in other words: what is set aside, what a reply without a size says, and what becomes of
-- parameters and of fixed assignments.
use Rattle.std.specs.Prelude.{ℕ, ◌<◌, ◌≡◌, ◌⊎◌, List, [], ◌++◌, length, map, Bool, true, false, Some, Ok}
use Rattle.ec_device.specs.Hardware.{is_fixed}
use Rattle.ec_device.specs.declared.parameter.Parameter.{Parameter}
use Rattle.ec_device.specs.declared.slave_type.Identity.{Identity}
use Rattle.ec_device.specs.Parameters.{byte_count}
use Rattle.ec_device.specs.Types.{SlaveKind}
use Rattle.ec_coe.specs.declared.value.ValueSize.{ValueSize}
use Rattle.ec_coe.specs.declared.value.SdoValue.{SdoValue}
use Rattle.ec_coe.specs.declared.message.Service.TheVariants.{Request, Response}
use Rattle.ec_coe.specs.declared.message.SdoCommand.TheVariants.{Other as OtherCommand}
use Rattle.ec_coe.specs.declared.message.Message.{Message}
use Rattle.ec_coe.specs.Messages.{message_bytes, size_number}
use Rattle.ec_coe.specs.Objects.{Dictionary, parameter_of, object_values}
use Rattle.ec_coe.specs.Transfers.{value_at, kept_value, uploaded, downloaded}
use Rattle.ec_coe.specs.SwitchedOn.{first_values}
use Rattle.ec_coe.specs.Answers.{answered}
use Rattle.ec_coe.specs.ReplyBytes.{reply_bytes}
use Rattle.ec_coe.specs.Replies.{is_aside, is_unsized, reply_of, free_reply_of}
use Rattle.ec_coe.specs.Emergency.{emergency_bytes}

-- ---- messages

-- Whatever follows them in the mailbox: emergencies are set aside, and SDO requests and responses aren't; so no reply of a slave is.
pub record AreSetAside : Type 0 where
  pub emergencies : (counter : ℕ) (rest : List ℕ) → is_aside (emergency_bytes counter ++ rest) ≡ true
  pub messages : (m : Message) (rest : List ℕ) → (m.service ≡ Request) ⊎ (m.service ≡ Response) → is_aside (message_bytes m ++ rest) ≡ false
  pub replies : (in_preop : Bool) (d : Dictionary) (m : Message) (counter room : ℕ) (rest : List ℕ)
      → is_aside (reply_bytes d room (answered in_preop d m counter).reply ++ rest) ≡ false

-- A message says the same as a reply of a device that may leave out the size, if its command says the size or is none of an upload.
abbrev pub SizedRepliesAreReplies : Type 0
SizedRepliesAreReplies =
    (index subindex : ℕ) (wanted : ValueSize) (m : Message) → ((number : ℕ) → m.command ≡ OtherCommand number → is_unsized number ≡ false)
    → free_reply_of index subindex wanted (Some m) ≡ reply_of index subindex (Some m)

-- ---- parameters

-- What a slave does with a parameter: it shows the value that it keeps, and takes each of the same length, in each state.
pub record KeepsParameter (in_preop : Bool) (d : Dictionary) (index subindex place : ℕ) : Type 0 where
  pub shows : uploaded d index subindex ≡ Ok (kept_value d.values place)
  pub takes : (value : SdoValue) → size_number value.size ≡ size_number (kept_value d.values place).size → place < length d.values
      → (after : Dictionary) × ((downloaded in_preop d index subindex value ≡ Ok after) × (uploaded after index subindex ≡ Ok value))

abbrev pub ParametersAreKept : Type 0
ParametersAreKept =
    (in_preop : Bool) (d : Dictionary) (index subindex place : ℕ) → parameter_of d.kind index subindex ≡ Some place → KeepsParameter in_preop d index subindex place

-- No answer changes how many bytes a parameter has.
abbrev pub SizesStay : Type 0
SizesStay =
    (in_preop : Bool) (d : Dictionary) (m : Message) (counter : ℕ)
    → map (λ (v : SdoValue). size_number v.size) (answered in_preop d m counter).dictionary.values ≡ map (λ (v : SdoValue). size_number v.size) d.values

-- As the power comes on each parameter has as many bytes as its download.
abbrev pub FirstValuesHaveSizes : Type 0
FirstValuesHaveSizes =
    (kind : SlaveKind) (identity : Identity)
    → map (λ (v : SdoValue). size_number v.size) (first_values kind identity) ≡ map (λ (q : Parameter). byte_count q.size) kind.init

-- ---- without them

-- A type without parameters has the objects of its PDOs and its identity alone, and what a full slave has besides.
abbrev pub PlainDictionaries : Type 0
PlainDictionaries = (d : Dictionary) (index subindex : ℕ) → d.kind.init ≡ [] → uploaded d index subindex ≡ value_at (object_values d index) subindex

-- A fixed assignment takes no download: an answer leaves both directions as they are.
pub record IsLeftAssigned (d e : Dictionary) : Type 0 where
  pub outs : e.outs ≡ d.outs
  pub ins : e.ins ≡ d.ins

abbrev pub FixedAssignmentsStay : Type 0
FixedAssignmentsStay =
    (in_preop : Bool) (d : Dictionary) (m : Message) (counter : ℕ) → is_fixed d.kind.hardware ≡ true → IsLeftAssigned d (answered in_preop d m counter).dictionary
