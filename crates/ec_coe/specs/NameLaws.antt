-- The name of a full slave, in other words: when its answers are those of a slave that isn't full, and how its name comes back
-- from the bytes of its reply.
use Rattle.std.specs.Prelude.{ℕ, ◌+◌, ◌*◌, ◌<◌, ◌≤◌, ◌≡◌, ◌≢◌, ◌⊎◌, List, ◌++◌, length, take, drop, slice_index, All, Bool, Some, None, option_map}
use Rattle.ec_device.specs.declared.slave_type.Face.{Face}
use Rattle.ec_device.specs.Types.{IsWithinLimits}
use Rattle.ec_device.specs.Objects.{pdo_at}
use Rattle.ec_coe.specs.declared.value.ValueSize.{ValueSize}
use Rattle.ec_coe.specs.declared.message.SdoCommand.TheVariants.{DownloadResponse, UploadRequest, UploadResponse, Abort, Other as OtherCommand}
use Rattle.ec_coe.specs.declared.message.Message.{Message}
use Rattle.ec_coe.specs.Messages.{message_bytes, message_read, message_length, normal_upload}
use Rattle.ec_coe.specs.Objects.{Dictionary, identity_object, output_assignment, input_assignment, device_name_object, size_of, max_expedited, pdo_values, send_room, object_values}
use Rattle.ec_coe.specs.Transfers.{uploaded}
use Rattle.ec_coe.specs.Answers.{upload_answer, answered}
use Rattle.ec_coe.specs.ReplyBytes.{reply_bytes}

-- ---- when nothing differs

-- The reply to an upload is an expedited transfer if it isn't one of the name, or if the slave isn't full.
pub record UploadsAreExpedited : Type 0 where
  pub elsewhere : (in_preop : Bool) (d : Dictionary) (m : Message) (counter : ℕ) → m.command ≡ UploadRequest → m.index ≢ device_name_object
      → (answered in_preop d m counter).reply ≡ upload_answer m counter (uploaded d m.index m.subindex)
  pub faceless : (in_preop : Bool) (d : Dictionary) (m : Message) (counter : ℕ) → m.command ≡ UploadRequest → d.kind.face ≡ None
      → (answered in_preop d m counter).reply ≡ upload_answer m counter (uploaded d m.index m.subindex)

-- A slave that isn't full has no objects but its identity, the two that assign PDOs, and those of its PDOs.
abbrev pub FacelessObjects : Type 0
FacelessObjects = (d : Dictionary) (index : ℕ) → d.kind.face ≡ None → index ≢ identity_object → index ≢ output_assignment → index ≢ input_assignment
    → object_values d index ≡ option_map pdo_values (pdo_at (d.kind.outputs ++ d.kind.inputs) index)

-- No letters follow a reply that is no normal upload response, nor one of a slave that isn't full.
pub record RepliesStandAlone : Type 0 where
  pub other : (d : Dictionary) (room : ℕ) (m : Message) → m.command ≢ OtherCommand normal_upload → reply_bytes d room m ≡ message_bytes m
  pub uploaded : (d : Dictionary) (room : ℕ) (m : Message) (size : ValueSize) → m.command ≡ UploadResponse size → reply_bytes d room m ≡ message_bytes m
  pub downloaded : (d : Dictionary) (room : ℕ) (m : Message) → m.command ≡ DownloadResponse → reply_bytes d room m ≡ message_bytes m
  pub aborted : (d : Dictionary) (room : ℕ) (m : Message) → m.command ≡ Abort → reply_bytes d room m ≡ message_bytes m
  pub faceless : (d : Dictionary) (room : ℕ) (m : Message) → d.kind.face ≡ None → reply_bytes d room m ≡ message_bytes m

-- The bytes of a reply are those of a message; or, if letters follow, they read back as none, whatever follows them.
abbrev pub RepliesReadAlone : Type 0
RepliesReadAlone =
    (d : Dictionary) (room : ℕ) (m : Message) (rest : List ℕ)
    → (reply_bytes d room m ≡ message_bytes m) ⊎ (message_read (reply_bytes d room m ++ rest) ≡ None)

-- A reply has the bytes of a message at least, and fits if a message does.
pub record RepliesFit : Type 0 where
  pub whole : (d : Dictionary) (room : ℕ) (m : Message) → message_length ≤ length (reply_bytes d room m)
  pub fits : (d : Dictionary) (room : ℕ) (m : Message) → message_length ≤ room → length (reply_bytes d room m) ≤ room

-- ---- the name

-- the number in the data bytes of a message
abbrev pub data_number : List ℕ → ℕ
data_number raw = slice_index raw 12 + 256 * slice_index raw 13 + 65536 * slice_index raw 14 + 16777216 * slice_index raw 15

-- Bytes with a name by a normal transfer: the mailbox header counts the ten bytes behind it and the letters, the command
-- is that of a normal upload response, the data are how many letters there are, and these end the bytes.
pub record HasName (name bytes : List ℕ) : Type 0 where
  pub header : slice_index bytes 0 + 256 * slice_index bytes 1 ≡ 10 + length name
  pub command : slice_index bytes 8 ≡ normal_upload
  pub size : data_number bytes ≡ length name
  pub letters : drop message_length bytes ≡ name

-- a request for the name of a full slave of a type within its limits
pub record AsksForName (d : Dictionary) (face : Face) (m : Message) : Type 0 where
  pub full : d.kind.face ≡ Some face
  pub limits : IsWithinLimits d.kind.mailbox d.kind.outputs d.kind.inputs
  pub command : m.command ≡ UploadRequest
  pub index : m.index ≡ device_name_object
  pub subindex : m.subindex ≡ 0

-- A long name comes back whole if it fits the mailbox; a short one stands in the data of an expedited transfer, as many
-- bytes as its size says.
pub record NamesComeBack : Type 0 where
  pub long : (in_preop : Bool) (d : Dictionary) (face : Face) (m : Message) (counter room : ℕ) → AsksForName d face m → max_expedited < length face.name
      → message_length + length face.name ≤ send_room d.kind.mailbox → message_length + length face.name ≤ room → HasName face.name (reply_bytes d room (answered in_preop d m counter).reply)
  pub short_size : (in_preop : Bool) (d : Dictionary) (face : Face) (m : Message) (counter : ℕ) → AsksForName d face m → length face.name ≤ max_expedited
      → (answered in_preop d m counter).reply.command ≡ UploadResponse (size_of (length face.name))
  pub short : (in_preop : Bool) (d : Dictionary) (face : Face) (m : Message) (counter : ℕ) → AsksForName d face m → length face.name ≤ max_expedited → All (λ letter. letter < 256) face.name
      → take (length face.name) (drop 12 (message_bytes (answered in_preop d m counter).reply)) ≡ face.name
