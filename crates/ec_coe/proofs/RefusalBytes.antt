-- What a refusal is, and what is read from it.
use Rattle.std.proofs.Common.{ℕ, ◌<◌, ◌≤◌, ◌≡◌, ◌==◌, ◌&&◌, not, Bool, true, false, if◌then◌else◌, refl, ◌∙◌, ap, inl, inr, arith, List, ◌++◌, length, Option, Some, None}
use Rattle.std.proofs.lemmas.Bool.{cases_Bool, eq-eqb, ne_eqb, lt-ltb, and_from, and_right}
use Rattle.ec_bits.proofs.AnyLaws.{if_true, if_false}
use Rattle.ec_coe.specs.declared.message.Message.{Message}
use Rattle.ec_coe.specs.declared.message.Service.TheVariants.{Other as OtherService}
use Rattle.ec_coe.specs.declared.reply.Reply.TheVariants.{Unexpected}
use Rattle.ec_coe.specs.declared.refusal.MailboxError.{MailboxError}
use Rattle.ec_coe.specs.declared.refusal.MailboxError.TheVariants.{UnsupportedProtocol, UnsupportedService, TooShort}
use Rattle.ec_coe.specs.Messages.{IsMessage, message_bytes, message_in, message_length, message_read}
use Rattle.ec_coe.specs.Replies.{reply_by, reply_in, reply_of}
use Rattle.ec_coe.specs.Refusals.{length_in, type_in, service_in, coe_type, sdo_request, sdo_information, expedited_length, error_reply, information_error, transfer_abort, refusal_bytes}
use Rattle.ec_coe.specs.RefusalLaws.{RefusalsFit, AsksForTransfer, RefusalsRead}
use Rattle.ec_coe.proofs.ReadBack.{length-message, reads_back}

-- ---- how long

-- whatever holds of each of two holds of a choice
chosen : {X : Type 0} (P : X → Type 0) (b : Bool) (x y : X) → P x → P y → P (if b then x else y)
chosen P true x y p q = p
chosen P false x y p q = q

each-refusal : (P : List ℕ → Type 0) (raw : List ℕ) (counter : ℕ) → ((error : MailboxError) → P (error_reply error counter)) → P (information_error counter) → P (message_bytes (transfer_abort raw counter)) → P (refusal_bytes raw counter)
unfolding refusal_bytes
each-refusal P raw counter e i a =
    chosen P _ _ _ (e UnsupportedProtocol) (chosen P _ _ _ i (chosen P _ _ _ (e UnsupportedService) (chosen P _ _ _ a (e TooShort))))

pub refusals_fit : RefusalsFit
refusals_fit = record {
  some = λ raw counter. each-refusal (λ (xs : List ℕ). 10 ≤ length xs) raw counter (λ error. omega arith) (omega arith) (let l = length-message (transfer_abort raw counter) in omega (arith, l));
  fits = λ raw counter. each-refusal (λ (xs : List ℕ). length xs ≤ message_length) raw counter (λ error. omega arith) (omega arith) (let l = length-message (transfer_abort raw counter) in omega (arith, l));
}

-- ---- what is read

-- an abort is a message
pub is-abort : (raw : List ℕ) (counter : ℕ) → counter < 8 → IsMessage (transfer_abort raw counter)
is-abort raw counter l = record { counter = l; service = omega arith; own_service = refl; own_command = refl }

aborts : (raw : List ℕ) (counter : ℕ) → AsksForTransfer raw → refusal_bytes raw counter ≡ message_bytes (transfer_abort raw counter)
unfolding refusal_bytes
aborts raw counter h =
    let service = h.service in
    if_false _ _ _ (ap not (eq-eqb (type_in raw) coe_type h.protocol))
    ∙ (if_false _ _ _ (ne_eqb (service_in raw) sdo_information (λ e. omega (arith, e, service)))
    ∙ (if_false _ _ _ (ap not (eq-eqb (service_in raw) sdo_request h.service))
    ∙ if_true _ _ _ (lt-ltb expedited_length (length_in raw) h.long)))

abort-read : (raw rest : List ℕ) (counter : ℕ) → counter < 8 → AsksForTransfer raw → message_read (refusal_bytes raw counter ++ rest) ≡ Some (transfer_abort raw counter)
abort-read raw rest counter l h = ap (λ (xs : List ℕ). message_read (xs ++ rest)) (aborts raw counter h) ∙ reads_back (transfer_abort raw counter) rest (is-abort raw counter l)

own-reply : (m : Message) → reply_in m.index m.subindex m ≡ reply_by m m.service
unfolding reply_in
own-reply m = if_true _ _ _ (and_from _ _ (eq-eqb m.index m.index refl) (eq-eqb m.subindex m.subindex refl))

no-length : (error : MailboxError) (counter : ℕ) (rest : List ℕ) → message_read (error_reply error counter ++ rest) ≡ None
unfolding message_read
no-length error counter rest = if_false _ _ _ (and_right _ _ refl)

strange-reply : (m : Message) (index subindex : ℕ) (number : ℕ) → m.service ≡ OtherService number → reply_in index subindex m ≡ Unexpected
unfolding reply_in
strange-reply m index subindex number e = elim (cases_Bool ((m.index == index) && (m.subindex == subindex))) [
  | inl on ↦ if_true _ _ _ on ∙ ap (reply_by m) e
  | inr off ↦ if_false _ _ _ off
]

strange-read : (raw : List ℕ) (index subindex number : ℕ) → (message_in raw).service ≡ OtherService number → reply_of index subindex (message_read raw) ≡ Unexpected
unfolding message_read
strange-read raw index subindex number e = chosen (λ (o : Option Message). reply_of index subindex o ≡ Unexpected) _ (Some (message_in raw)) None (strange-reply (message_in raw) index subindex number e) refl

pub refusals_read : RefusalsRead
refusals_read = record {
  abort = abort-read;
  aborted = λ raw rest counter l h.
      ap (reply_of (message_in raw).index (message_in raw).subindex) (abort-read raw rest counter l h) ∙ own-reply (transfer_abort raw counter);
  error = no-length;
  information = λ counter index subindex rest. strange-read (information_error counter ++ rest) index subindex sdo_information refl;
}
