-- Each abort by its cause, as a relation between a dictionary and a request. The law says that the abort with which a slave
-- replies is the first whose cause holds (the order is the profile of the simulated slaves).
use Rattle.std.specs.Prelude.{ℕ, ◌<◌, ◌≤◌, ◌≡◌, ◌≢◌, ◌==◌, ◌⊎◌, List, length, take, Bool, false, true, if◌then◌else◌, slice_get, Some, None, Ok}
use Rattle.ec_device.specs.declared.slave_type.Pdo.{Pdo}
use Rattle.ec_device.specs.Hardware.{is_fixed}
use Rattle.ec_device.specs.Objects.{bits_assigned}
use Rattle.ec_coe.specs.declared.value.ValueSize.{ValueSize}
use Rattle.ec_coe.specs.declared.value.SdoValue.{SdoValue}
use Rattle.ec_coe.specs.declared.message.SdoCommand.TheVariants.{DownloadRequest, UploadRequest}
use Rattle.ec_coe.specs.declared.message.Service.TheVariants.{Response}
use Rattle.ec_coe.specs.declared.message.Message.{Message}
use Rattle.ec_coe.specs.declared.abort_code.AbortCode.{AbortCode}
use Rattle.ec_coe.specs.declared.abort_code.AbortCode.TheVariants.{InvalidCommand, ReadOnly, NoObject, WrongLength, NoSubindex, InvalidValue, WrongState}
use Rattle.ec_coe.specs.Messages.{size_number}
use Rattle.ec_coe.specs.Objects.{Assignment, Dictionary, output_assignment, input_assignment, parameter_of, own_values}
use Rattle.ec_coe.specs.Transfers.{max_bits, uploaded}
use Rattle.ec_coe.specs.Answers.{abort_to, value_of, answered}

-- the type's PDOs and the assignment of the direction that an assignment object has
abbrev pub pdos_at : Dictionary → ℕ → List Pdo
pdos_at d index = if index == output_assignment then d.kind.outputs else d.kind.inputs

abbrev pub assignment_at : Dictionary → ℕ → Assignment
assignment_at d index = if index == output_assignment then d.outs else d.ins

-- the request downloads a value of a size
abbrev pub Downloads : Message → ValueSize → Type 0
Downloads m size = m.command ≡ DownloadRequest size

-- ---- the causes, in their order

-- it is neither a download nor an upload
pub record IsNoRequest (m : Message) : Type 0 where
  pub no_download : (size : ValueSize) → Downloads m size → ⊥
  pub no_upload : m.command ≡ UploadRequest → ⊥

-- the slave has no object of the index
pub record HasNoObject (d : Dictionary) (m : Message) : Type 0 where
  pub none : own_values d m.index ≡ None

-- what it is for is no parameter of the slave
abbrev pub IsNoParameter : Dictionary → Message → Type 0
IsNoParameter d m = parameter_of d.kind m.index m.subindex ≡ None

-- the object has no value at the subindex
pub record HasNoSubindex (d : Dictionary) (m : Message) : Type 0 where
  pub no_parameter : IsNoParameter d m
  pub values : List SdoValue
  pub object : own_values d m.index ≡ Some values
  pub past : length values ≤ m.subindex

-- it is for an object that assigns PDOs
abbrev pub IsToAssignment : Message → Type 0
IsToAssignment m = (m.index ≡ output_assignment) ⊎ (m.index ≡ input_assignment)

-- a download to an object that assigns no PDOs, or to one of a fixed assignment
pub record IsReadOnly (d : Dictionary) (m : Message) : Type 0 where
  pub size : ValueSize
  pub download : Downloads m size
  pub no_parameter : IsNoParameter d m
  pub kept : (IsToAssignment m → ⊥) ⊎ (is_fixed d.kind.hardware ≡ true)

-- a download of another length than that of the value that is there
pub record HasWrongLength (d : Dictionary) (m : Message) : Type 0 where
  pub size : ValueSize
  pub download : Downloads m size
  pub value : SdoValue
  pub there : uploaded d m.index m.subindex ≡ Ok value
  pub unlike : size_number size ≢ size_number value.size

-- a download to an assignment in another state than PREOP, or to a slot while the count isn't 0
pub record IsWrongState (in_preop : Bool) (d : Dictionary) (m : Message) : Type 0 where
  pub size : ValueSize
  pub download : Downloads m size
  pub no_parameter : IsNoParameter d m
  pub closed : (in_preop ≡ false) ⊎ ((0 < m.subindex) × (0 < (assignment_at d m.index).count))

-- a number stands twice in a list
pub record HasTwice (ns : List ℕ) : Type 0 where
  pub first : ℕ
  pub second : ℕ
  pub before : first < second
  pub number : ℕ
  pub there : slice_get ns first ≡ Some number
  pub there_too : slice_get ns second ≡ Some number

-- a count of more PDOs than the type has, of slots with a double, or of over 2048 bits
pub data IsBadCount (ps : List Pdo) (a : Assignment) (count : ℕ) : Type 0 where
  TooMany : length ps < count → IsBadCount ps a count
  Double : HasTwice (take count a.slots) → IsBadCount ps a count
  TooLong : max_bits < bits_assigned ps (take count a.slots) → IsBadCount ps a count

-- an index that no PDO of the direction has
pub record IsBadIndex (ps : List Pdo) (index : ℕ) : Type 0 where
  pub none : (k : ℕ) (p : Pdo) → slice_get ps k ≡ Some p → p.index ≢ index

-- a download of a value that the assignment doesn't take
pub record HasInvalidValue (d : Dictionary) (m : Message) : Type 0 where
  pub size : ValueSize
  pub download : Downloads m size
  pub no_parameter : IsNoParameter d m
  pub count : m.subindex ≡ 0 → IsBadCount (pdos_at d m.index) (assignment_at d m.index) (value_of size m.value).number
  pub slot : m.subindex ≢ 0 → IsBadIndex (pdos_at d m.index) (value_of size m.value).number

abbrev pub Causes : Bool → Dictionary → Message → AbortCode → Type 0
Causes in_preop d m InvalidCommand = IsNoRequest m
Causes in_preop d m NoObject = HasNoObject d m
Causes in_preop d m NoSubindex = HasNoSubindex d m
Causes in_preop d m ReadOnly = IsReadOnly d m
Causes in_preop d m WrongLength = HasWrongLength d m
Causes in_preop d m WrongState = IsWrongState in_preop d m
Causes in_preop d m InvalidValue = HasInvalidValue d m

abbrev pub rank_of : AbortCode → ℕ
rank_of InvalidCommand = 0
rank_of NoObject = 1
rank_of NoSubindex = 2
rank_of ReadOnly = 3
rank_of WrongLength = 4
rank_of WrongState = 5
rank_of InvalidValue = 6

-- its cause holds, and that of none before it
pub record IsFirstAbort (in_preop : Bool) (d : Dictionary) (m : Message) (code : AbortCode) : Type 0 where
  pub holds : Causes in_preop d m code
  pub first : (other : AbortCode) → Causes in_preop d m other → rank_of other < rank_of code → ⊥

-- ---- the law

-- The reply is the first abort whose cause holds, and changes nothing; if no cause holds, the reply is a response.
pub record FirstAbort : Type 0 where
  pub told : (in_preop : Bool) (d : Dictionary) (m : Message) (counter : ℕ) (code : AbortCode) → IsFirstAbort in_preop d m code → answered in_preop d m counter ≡ record { reply = abort_to m counter code; dictionary = d }
  pub only : (in_preop : Bool) (d : Dictionary) (m : Message) (counter : ℕ) (code : AbortCode) → (answered in_preop d m counter).reply ≡ abort_to m counter code → IsFirstAbort in_preop d m code
  pub done : (in_preop : Bool) (d : Dictionary) (m : Message) (counter : ℕ) → ((code : AbortCode) → Causes in_preop d m code → ⊥) → (answered in_preop d m counter).reply.service ≡ Response
