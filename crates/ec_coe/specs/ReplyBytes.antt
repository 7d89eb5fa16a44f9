-- How a reply lies in the mailbox that is read: as the bytes of a message, and behind a normal upload response the letters
-- of the name (ETG.1000.6, "Upload SDO normal response").
use Rattle.std.specs.Prelude.{ℕ, ◌+◌, ◌==◌, List, ◌++◌, length, if◌then◌else◌, slice_set, Option, Some, None}
use Rattle.ec_device.specs.declared.slave_type.Face.{Face}
use Rattle.ec_coe.specs.declared.message.SdoCommand.{SdoCommand}
use Rattle.ec_coe.specs.declared.message.SdoCommand.TheVariants.{DownloadRequest, DownloadResponse, UploadRequest, UploadResponse, Abort, Other as OtherCommand}
use Rattle.ec_coe.specs.declared.message.Message.{Message}
use Rattle.ec_coe.specs.Messages.{message_bytes, normal_upload}
use Rattle.ec_coe.specs.Objects.{Dictionary, name_fits}

-- the name of a face, if its letters fit a mailbox of `room` bytes
abbrev pub fitting_name : Option Face → ℕ → Option (List ℕ)
fitting_name None room = None
fitting_name (Some face) room = if name_fits face.name room then Some face.name else None

-- the letters that follow a message: a name behind a normal upload response, none behind any other
abbrev pub letters_behind : Option Face → ℕ → SdoCommand → Option (List ℕ)
letters_behind face room (DownloadRequest size) = None
letters_behind face room DownloadResponse = None
letters_behind face room UploadRequest = None
letters_behind face room (UploadResponse size) = None
letters_behind face room Abort = None
letters_behind face room (OtherCommand number) = if number == normal_upload then fitting_name face room else None

-- A message with letters behind it, which the length of the mailbox header counts. A name has at most 32, so that the high
-- byte of the length stays 0.
abbrev pub message_with : Message → List ℕ → List ℕ
message_with m letters = slice_set (message_bytes m) 0 (10 + length letters) ++ letters

abbrev pub bytes_with : Message → Option (List ℕ) → List ℕ
bytes_with m None = message_bytes m
bytes_with m (Some letters) = message_with m letters

-- the bytes of a reply in a mailbox of so many bytes
unfoldable pub reply_bytes : Dictionary → ℕ → Message → List ℕ
reply_bytes d room m = bytes_with m (letters_behind d.kind.face room m.command)
