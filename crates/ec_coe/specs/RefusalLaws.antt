-- What a master reads from a refusal, in other words.
use Rattle.std.specs.Prelude.{ℕ, ◌<◌, ◌≤◌, ◌≡◌, List, ◌++◌, length, Some, None}
use Rattle.ec_coe.specs.declared.reply.Reply.TheVariants.{Unexpected, Aborted}
use Rattle.ec_coe.specs.declared.refusal.MailboxError.{MailboxError}
use Rattle.ec_coe.specs.Messages.{message_length, message_in, message_read}
use Rattle.ec_coe.specs.Replies.{reply_of}
use Rattle.ec_coe.specs.Refusals.{length_in, type_in, service_in, coe_type, sdo_request, expedited_length, error_reply, information_error, transfer_abort, refusal_bytes}

-- A refusal is never empty, and fits if a message does.
pub record RefusalsFit : Type 0 where
  pub some : (raw : List ℕ) (counter : ℕ) → 10 ≤ length (refusal_bytes raw counter)
  pub fits : (raw : List ℕ) (counter : ℕ) → length (refusal_bytes raw counter) ≤ message_length

-- a request for an SDO transfer of another kind than the expedited one
pub record AsksForTransfer (raw : List ℕ) : Type 0 where
  pub protocol : type_in raw ≡ coe_type
  pub service : service_in raw ≡ sdo_request
  pub long : expedited_length < length_in raw

-- Whatever follows a refusal in the mailbox: an abort reads back as a message, which is the reply to the index and the subindex
-- of the request; a mailbox error is no message; and it and an SDO information error are no reply to an SDO request.
pub record RefusalsRead : Type 0 where
  pub abort : (raw rest : List ℕ) (counter : ℕ) → counter < 8 → AsksForTransfer raw → message_read (refusal_bytes raw counter ++ rest) ≡ Some (transfer_abort raw counter)
  pub aborted : (raw rest : List ℕ) (counter : ℕ) → counter < 8 → AsksForTransfer raw
      → reply_of (message_in raw).index (message_in raw).subindex (message_read (refusal_bytes raw counter ++ rest)) ≡ Aborted 0x05040001
  pub error : (error : MailboxError) (counter : ℕ) (rest : List ℕ) → message_read (error_reply error counter ++ rest) ≡ None
  pub information : (counter index subindex : ℕ) (rest : List ℕ) → reply_of index subindex (message_read (information_error counter ++ rest)) ≡ Unexpected
