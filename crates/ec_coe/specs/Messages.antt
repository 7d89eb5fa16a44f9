-- A mailbox message with an expedited SDO, and its spelling (ETG.1000.4, "Mailbox structure"; ETG.1000.6, "CoE header",
-- "SDO services", expedited transfer).
use Rattle.std.specs.Prelude.{ℕ, ◌+◌, ◌*◌, ◌/◌, ◌%◌, ◌<◌, ◌≡◌, ◌==◌, ◌&&◌, not, List, [], ◌∷◌, length, Bool, if◌then◌else◌, nat_lt, slice_index, Option, Some, None}
use Rattle.ec_coe.specs.declared.value.ValueSize.{ValueSize}
use Rattle.ec_coe.specs.declared.value.ValueSize.TheVariants.{One, Two, Three, Four}
use Rattle.ec_coe.specs.declared.message.Service.{Service}
use Rattle.ec_coe.specs.declared.message.Service.TheVariants.{Request, Response, Other as OtherService}
use Rattle.ec_coe.specs.declared.message.SdoCommand.{SdoCommand}
use Rattle.ec_coe.specs.declared.message.SdoCommand.TheVariants.{DownloadRequest, DownloadResponse, UploadRequest, UploadResponse, Abort, Other as OtherCommand}
use Rattle.ec_coe.specs.declared.message.Message.{Message}

-- ---- the numbers of the standard

-- how many bytes
abbrev pub size_number : ValueSize → ℕ
size_number One = 1
size_number Two = 2
size_number Three = 3
size_number Four = 4

-- the service in bits 12..15 of the CoE header
abbrev pub service_number : Service → ℕ
service_number Request = 2
service_number Response = 3
service_number (OtherService n) = n

abbrev pub service_of : ℕ → Service
service_of n = if n == 2 then Request else (if n == 3 then Response else OtherService n)

-- the command byte of an expedited SDO
abbrev pub command_number : SdoCommand → ℕ
command_number (DownloadRequest One) = 0x2F
command_number (DownloadRequest Two) = 0x2B
command_number (DownloadRequest Three) = 0x27
command_number (DownloadRequest Four) = 0x23
command_number DownloadResponse = 0x60
command_number UploadRequest = 0x40
command_number (UploadResponse One) = 0x4F
command_number (UploadResponse Two) = 0x4B
command_number (UploadResponse Three) = 0x47
command_number (UploadResponse Four) = 0x43
command_number Abort = 0x80
command_number (OtherCommand n) = n

abbrev pub command_of : ℕ → SdoCommand
command_of n =
    if n == 0x2F then DownloadRequest One
    else (if n == 0x2B then DownloadRequest Two
    else (if n == 0x27 then DownloadRequest Three
    else (if n == 0x23 then DownloadRequest Four
    else (if n == 0x60 then DownloadResponse
    else (if n == 0x40 then UploadRequest
    else (if n == 0x4F then UploadResponse One
    else (if n == 0x4B then UploadResponse Two
    else (if n == 0x47 then UploadResponse Three
    else (if n == 0x43 then UploadResponse Four
    else (if n == 0x80 then Abort else OtherCommand n))))))))))

-- the command byte of a normal upload response that says how many bytes follow it (ETG.1000.6, "Upload SDO normal
-- response"): it stands in a message as `Other`
abbrev pub normal_upload : ℕ
normal_upload = 0x41

-- ---- the spelling

abbrev pub message_length : ℕ
message_length = 16

-- The mailbox header: the length of what follows, address and channel 0, type 3 (CoE) with the counter. The CoE header:
-- number 0 and the service. The SDO: command, index, subindex and four bytes of data, all little-endian.
unfoldable pub message_bytes : Message → List ℕ
message_bytes m =
    10 ∷ 0 ∷ 0 ∷ 0 ∷ 0 ∷ (3 + 16 * m.counter) ∷ 0 ∷ (16 * service_number m.service) ∷ command_number m.command
    ∷ (m.index % 256) ∷ (m.index / 256) ∷ m.subindex
    ∷ (m.value % 256) ∷ (m.value / 256 % 256) ∷ (m.value / 65536 % 256) ∷ (m.value / 16777216) ∷ []

-- 16 bytes at least, a length of 10 and type 3: anything else is no message
abbrev pub is_message : List ℕ → Bool
is_message raw =
    not (nat_lt (length raw) message_length)
    && ((slice_index raw 0 + 256 * slice_index raw 1 == 10) && (slice_index raw 5 % 16 == 3))

-- the fields of a message; the address, the channel and all other bits are not looked at
abbrev pub message_in : List ℕ → Message
message_in raw = record {
  counter = slice_index raw 5 / 16 % 8;
  service = service_of (slice_index raw 7 / 16);
  command = command_of (slice_index raw 8);
  index = slice_index raw 9 + 256 * slice_index raw 10;
  subindex = slice_index raw 11;
  value = slice_index raw 12 + 256 * slice_index raw 13 + 65536 * slice_index raw 14 + 16777216 * slice_index raw 15;
}

unfoldable pub message_read : List ℕ → Option Message
message_read raw = if is_message raw then Some (message_in raw) else None

-- Each field fits its bits, and a service or a command that has a name stands by it.
pub record IsMessage (m : Message) : Type 0 where
  pub counter : m.counter < 8
  pub service : service_number m.service < 16
  pub own_service : service_of (service_number m.service) ≡ m.service
  pub own_command : command_of (command_number m.command) ≡ m.command
