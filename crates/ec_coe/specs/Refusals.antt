-- The replies of a full slave to messages that are no SDO request that it takes, in place of silence (ETG.1000.4, "Mailbox
-- structure" and "Mailbox error"; ETG.1000.6, "CoE header", "SDO information error" and "Abort SDO transfer").
use Rattle.std.specs.Prelude.{ℕ, ◌+◌, ◌*◌, ◌/◌, ◌%◌, ◌==◌, not, List, [], ◌∷◌, if◌then◌else◌, nat_lt, slice_index}
use Rattle.ec_coe.specs.declared.message.Message.{Message}
use Rattle.ec_coe.specs.declared.abort_code.AbortCode.TheVariants.{InvalidCommand}
use Rattle.ec_coe.specs.declared.refusal.MailboxError.{MailboxError}
use Rattle.ec_coe.specs.declared.refusal.MailboxError.TheVariants.{UnsupportedProtocol, UnsupportedService, TooShort}
use Rattle.ec_coe.specs.Messages.{message_bytes, message_in}
use Rattle.ec_coe.specs.Answers.{abort_to}

-- ---- what the message is, by its mailbox header and its CoE header; bytes past the end read 0

-- how many bytes follow the mailbox header
abbrev pub length_in : List ℕ → ℕ
length_in raw = slice_index raw 0 + 256 * slice_index raw 1

abbrev pub type_in : List ℕ → ℕ
type_in raw = slice_index raw 5 % 16

abbrev pub service_in : List ℕ → ℕ
service_in raw = slice_index raw 7 / 16

-- the mailbox type of CoE
abbrev pub coe_type : ℕ
coe_type = 3

-- services of the CoE header
abbrev pub sdo_request : ℕ
sdo_request = 2

abbrev pub sdo_response : ℕ
sdo_response = 3

abbrev pub sdo_information : ℕ
sdo_information = 8

-- how many bytes follow the mailbox header in an expedited SDO
abbrev pub expedited_length : ℕ
expedited_length = 10

-- ---- the answers

-- the details of a mailbox error
abbrev pub detail_number : MailboxError → ℕ
detail_number UnsupportedProtocol = 0x0002
detail_number UnsupportedService = 0x0004
detail_number TooShort = 0x0006

-- A mailbox error reply: the mailbox header with length 4, address and channel 0, type 0 with the counter; the word 0x0001 and
-- the word of the detail.
abbrev pub error_reply : MailboxError → ℕ → List ℕ
error_reply error counter = 4 ∷ 0 ∷ 0 ∷ 0 ∷ 0 ∷ (16 * counter) ∷ 0x01 ∷ 0 ∷ detail_number error ∷ 0 ∷ []

-- An SDO information error: the mailbox header with length 10, address and channel 0, type 3 with the counter; the CoE header
-- with number 0 and service 8; opcode 7, a reserved byte, no fragments left; the abort code 0x06010000, that the access to the
-- object isn't supported.
abbrev pub information_error : ℕ → List ℕ
information_error counter =
    10 ∷ 0 ∷ 0 ∷ 0 ∷ 0 ∷ (3 + 16 * counter) ∷ 0 ∷ (16 * sdo_information) ∷ 7 ∷ 0 ∷ 0 ∷ 0 ∷ 0x00 ∷ 0x00 ∷ 0x01 ∷ 0x06 ∷ []

-- an abort of a transfer of another kind than the expedited one, with the request's index and subindex: its command is none
-- that the slave has
abbrev pub transfer_abort : List ℕ → ℕ → Message
transfer_abort raw counter = abort_to (message_in raw) counter InvalidCommand

-- The answer to these bytes of a mailbox, with this counter. A message of a protocol other than CoE is refused by a mailbox
-- error; so are a CoE message of another service than SDO requests and SDO information, and an SDO request that is too short.
unfoldable pub refusal_bytes : List ℕ → ℕ → List ℕ
refusal_bytes raw counter =
    if not (type_in raw == coe_type) then error_reply UnsupportedProtocol counter
    else (if service_in raw == sdo_information then information_error counter
    else (if not (service_in raw == sdo_request) then error_reply UnsupportedService counter
    else (if nat_lt expedited_length (length_in raw) then message_bytes (transfer_abort raw counter)
    else error_reply TooShort counter)))
