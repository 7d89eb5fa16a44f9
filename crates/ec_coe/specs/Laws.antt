-- Laws of the definitions of this crate.
use Rattle.std.specs.Prelude.{ℕ, ◌≡◌, ◌<◌, ◌≤◌, List, [], ◌++◌, length, Bool, true, false, Some, is_some, slice_index}
use Rattle.ec_coe.specs.declared.message.Message.{Message}
use Rattle.ec_device.specs.declared.slave_type.Pdo.{Pdo}
use Rattle.ec_device.specs.Objects.{pdo_at, bits_assigned}
use Rattle.ec_coe.specs.Messages.{IsMessage, message_bytes, message_read}
use Rattle.ec_coe.specs.Objects.{Assignment, Dictionary, assigned}
use Rattle.ec_coe.specs.Transfers.{distinct, max_bits}
use Rattle.ec_coe.specs.Answers.{answered}

-- A message is read back from its bytes, whatever follows them.
abbrev pub ReadsBack : Type 0
ReadsBack = (m : Message) (rest : List ℕ) → IsMessage m → message_read (message_bytes m ++ rest) ≡ Some m

-- An answer changes an assignment only in PREOP. In any other state it changes parameters alone; so it changes nothing of a type
-- without any.
pub record ChangesInPreopAlone : Type 0 where
  pub assignments : (d : Dictionary) (m : Message) (counter : ℕ) → (answered false d m counter).dictionary ≡ record d { values = (answered false d m counter).dictionary.values }
  pub plain : (d : Dictionary) (m : Message) (counter : ℕ) → d.kind.init ≡ [] → (answered false d m counter).dictionary ≡ d

-- what an assignment is, once it was made by a master: PDOs of the direction, none of them twice, with few enough bits
pub record IsAssignment (ps : List Pdo) (a : Assignment) : Type 0 where
  pub own : (k : ℕ) → k < length a.slots → is_some (pdo_at ps (slice_index a.slots k)) ≡ true
  pub apart : distinct (assigned a) ≡ true
  pub bits : bits_assigned ps (assigned a) ≤ max_bits

-- An answer leaves the type and the identity as they are, and each assignment one of the type's own PDOs without a double
-- and of at most 2048 bits.
pub record KeepsAssignments (d e : Dictionary) : Type 0 where
  pub kind : e.kind ≡ d.kind
  pub identity : e.identity ≡ d.identity
  pub outputs : IsAssignment d.kind.outputs d.outs → IsAssignment d.kind.outputs e.outs
  pub inputs : IsAssignment d.kind.inputs d.ins → IsAssignment d.kind.inputs e.ins

abbrev pub AnswersKeepAssignments : Type 0
AnswersKeepAssignments = (in_preop : Bool) (d : Dictionary) (m : Message) (counter : ℕ) → KeepsAssignments d (answered in_preop d m counter).dictionary
