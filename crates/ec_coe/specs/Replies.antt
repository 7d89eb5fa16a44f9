-- What a mailbox holds as the reply to an SDO request (ETG.1000.6, "SDO services").
use Rattle.std.specs.Prelude.{ℕ, ◌/◌, ◌%◌, ◌==◌, ◌&&◌, ◌||◌, not, List, Bool, if◌then◌else◌, Option, Some, None}
use Rattle.ec_coe.specs.declared.value.ValueSize.{ValueSize}
use Rattle.ec_coe.specs.declared.message.Service.{Service}
use Rattle.ec_coe.specs.declared.message.Service.TheVariants.{Request, Response, Other as OtherService}
use Rattle.ec_coe.specs.declared.message.SdoCommand.{SdoCommand}
use Rattle.ec_coe.specs.declared.message.SdoCommand.TheVariants.{DownloadRequest, DownloadResponse, UploadRequest, UploadResponse, Abort, Other as OtherCommand}
use Rattle.ec_coe.specs.declared.message.Message.{Message}
use Rattle.ec_coe.specs.declared.reply.Reply.{Reply}
use Rattle.ec_coe.specs.declared.reply.Reply.TheVariants.{Downloaded, Uploaded, Aborted, Unexpected}
use Rattle.ec_coe.specs.Objects.{value_of}
use Rattle.ec_coe.specs.Refusals.{type_in, service_in, coe_type, sdo_request, sdo_response}

-- A response: done, whatever its data are, or a value of its size, whatever the bytes behind it are.
abbrev pub response_in : Message → SdoCommand → Reply
response_in m DownloadResponse = Downloaded
response_in m (UploadResponse size) = Uploaded (value_of size m.value)
response_in m Abort = Aborted m.value
response_in m (DownloadRequest size) = Unexpected
response_in m UploadRequest = Unexpected
response_in m (OtherCommand number) = Unexpected

-- an abort may have the service of a request too
abbrev pub abort_in : Message → SdoCommand → Reply
abort_in m Abort = Aborted m.value
abort_in m DownloadResponse = Unexpected
abort_in m (UploadResponse size) = Unexpected
abort_in m (DownloadRequest size) = Unexpected
abort_in m UploadRequest = Unexpected
abort_in m (OtherCommand number) = Unexpected

abbrev pub reply_by : Message → Service → Reply
reply_by m Response = response_in m m.command
reply_by m Request = abort_in m m.command
reply_by m (OtherService number) = Unexpected

-- what the message says as the reply to a request for this index and subindex
unfoldable pub reply_in : ℕ → ℕ → Message → Reply
reply_in index subindex m = if (m.index == index) && (m.subindex == subindex) then reply_by m m.service else Unexpected

-- and what the bytes of a mailbox say
abbrev pub reply_of : ℕ → ℕ → Option Message → Reply
reply_of index subindex None = Unexpected
reply_of index subindex (Some m) = reply_in index subindex m

-- ---- real devices

-- A message that no request asked for is set aside: one of another protocol, and one of a CoE service that is neither an SDO request
-- nor an SDO response, as an emergency (ETG.1000.4, "Mailbox structure"; ETG.1000.6, "CoE header").
abbrev pub is_aside : List ℕ → Bool
is_aside raw = not (type_in raw == coe_type) || not ((service_in raw == sdo_request) || (service_in raw == sdo_response))

-- The command of an expedited upload response without the bit that says the size; then the bits for the size say nothing (ETG.1000.6,
-- "Upload SDO expedited response").
abbrev pub is_unsized : ℕ → Bool
is_unsized number = (number / 32 == 2) && (number % 4 == 2)

-- a value without a size has the size that is wanted
abbrev pub sized_command : ValueSize → SdoCommand → SdoCommand
sized_command wanted (DownloadRequest size) = DownloadRequest size
sized_command wanted DownloadResponse = DownloadResponse
sized_command wanted UploadRequest = UploadRequest
sized_command wanted (UploadResponse size) = UploadResponse size
sized_command wanted Abort = Abort
sized_command wanted (OtherCommand number) = if is_unsized number then UploadResponse wanted else OtherCommand number

abbrev pub sized_message : ValueSize → Message → Message
sized_message wanted m = record m { command = sized_command wanted m.command }

-- What the bytes of a mailbox say as the reply to a request, of a device that may leave out the size of a value.
abbrev pub free_reply_of : ℕ → ℕ → ValueSize → Option Message → Reply
free_reply_of index subindex wanted None = Unexpected
free_reply_of index subindex wanted (Some m) = reply_in index subindex (sized_message wanted m)
