-- The reply of a slave to an SDO request (ETG.1000.6, "SDO services", expedited transfer; "Upload SDO normal response").
use Rattle.std.specs.Prelude.{ℕ, ◌==◌, ◌&&◌, Bool, false, if◌then◌else◌, Option, Some, None, Result, Ok, Err}
use Rattle.ec_device.specs.declared.slave_type.Face.{Face}
use Rattle.ec_coe.specs.declared.value.SdoValue.{SdoValue}
use Rattle.ec_coe.specs.declared.message.Service.{Service}
use Rattle.ec_coe.specs.declared.message.Service.TheVariants.{Request, Response}
use Rattle.ec_coe.specs.declared.message.SdoCommand.{SdoCommand}
use Rattle.ec_coe.specs.declared.message.SdoCommand.TheVariants.{DownloadRequest, DownloadResponse, UploadRequest, UploadResponse, Abort, Other as OtherCommand}
use Rattle.ec_coe.specs.declared.message.Message.{Message}
use Rattle.ec_coe.specs.declared.abort_code.AbortCode.{AbortCode}
use Rattle.ec_coe.specs.declared.abort_code.AbortCode.TheVariants.{InvalidCommand}
use Rattle.ec_coe.specs.Messages.{normal_upload}
use Rattle.ec_coe.specs.Objects.{Dictionary, device_name_object, is_long}
pub use Rattle.ec_coe.specs.Objects.{value_of}
use Rattle.ec_coe.specs.Transfers.{abort_number, uploaded, downloaded}

-- a reply, and the dictionary after it
pub record Answer : Type 0 where
  pub reply : Message
  pub dictionary : Dictionary

-- a reply has the index and the subindex of its request
abbrev pub reply_to : Message → ℕ → Service → SdoCommand → ℕ → Message
reply_to m counter service command value =
    record { counter = counter; service = service; command = command; index = m.index; subindex = m.subindex; value = value }

-- an abort has the service of a request
abbrev pub abort_to : Message → ℕ → AbortCode → Message
abort_to m counter code = reply_to m counter Request Abort (abort_number code)

abbrev pub upload_answer : Message → ℕ → Result SdoValue AbortCode → Message
upload_answer m counter (Ok value) = reply_to m counter Response (UploadResponse value.size) value.number
upload_answer m counter (Err code) = abort_to m counter code

-- what comes by a normal transfer: the data say how many bytes follow
abbrev pub normal_answer : Message → ℕ → Result SdoValue AbortCode → Message
normal_answer m counter (Ok value) = reply_to m counter Response (OtherCommand normal_upload) value.number
normal_answer m counter (Err code) = abort_to m counter code

abbrev pub has_long_name : Option Face → Bool
has_long_name None = false
has_long_name (Some face) = is_long face.name

-- the name of a full slave comes by a normal transfer if it is long; everything else by an expedited one
abbrev pub upload_reply : Option Face → Message → ℕ → Result SdoValue AbortCode → Message
upload_reply face m counter outcome = if (m.index == device_name_object) && has_long_name face then normal_answer m counter outcome else upload_answer m counter outcome

abbrev pub download_answer : Dictionary → Message → ℕ → Result Dictionary AbortCode → Answer
download_answer d m counter (Ok after) = record { reply = reply_to m counter Response DownloadResponse 0; dictionary = after }
download_answer d m counter (Err code) = record { reply = abort_to m counter code; dictionary = d }

abbrev pub invalid_answer : Dictionary → Message → ℕ → Answer
invalid_answer d m counter = record { reply = abort_to m counter InvalidCommand; dictionary = d }

abbrev pub answer_by : Bool → Dictionary → Message → ℕ → SdoCommand → Answer
answer_by in_preop d m counter (DownloadRequest size) = download_answer d m counter (downloaded in_preop d m.index m.subindex (value_of size m.value))
answer_by in_preop d m counter UploadRequest = record { reply = upload_reply d.kind.face m counter (uploaded d m.index m.subindex); dictionary = d }
answer_by in_preop d m counter DownloadResponse = invalid_answer d m counter
answer_by in_preop d m counter (UploadResponse size) = invalid_answer d m counter
answer_by in_preop d m counter Abort = invalid_answer d m counter
answer_by in_preop d m counter (OtherCommand number) = invalid_answer d m counter

-- the answer to a request, whatever its counter is; the reply has its own
unfoldable pub answered : Bool → Dictionary → Message → ℕ → Answer
answered in_preop d m counter = answer_by in_preop d m counter m.command
