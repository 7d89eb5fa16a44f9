-- What is wrong at a mailbox ends the start-up.
use Rattle.std.proofs.Common.{◌≡◌, ℕ, ◌+◌, ◌≤◌, ◌==◌, List, length, Bool, true, if◌then◌else◌, Some, refl, ap, ◌∙◌, inl, inr, arith}
use Rattle.std.proofs.lemmas.Bool.{cases_Bool, and_parts, leb-true, eq-eqb, ne_eqb}
use Rattle.ec_frame.specs.Datagram.{Datagram}
use Rattle.ec_coe.specs.declared.reply.Reply.{Reply}
use Rattle.ec_coe.specs.declared.reply.Reply.TheVariants.{Aborted, Unexpected}
use Rattle.ec_coe.specs.Messages.{message_length, message_read}
use Rattle.ec_coe.specs.Replies.{is_aside}
use Rattle.ec_start.specs.declared.action.Transfer.{Transfer}
use Rattle.ec_start.specs.declared.action.Transfer.TheVariants.{Download, Upload}
use Rattle.ec_start.specs.declared.action.SdoRequest.{SdoRequest}
use Rattle.ec_start.specs.declared.action.Action.{Action}
use Rattle.ec_start.specs.declared.aside.Heard.{Heard}
use Rattle.ec_start.specs.declared.error.StartError.TheVariants.{BadMailbox, Counter, Abort}
use Rattle.ec_start.specs.declared.verdict.Verdict.TheVariants.{Next, Again, Aside, Fails}
use Rattle.ec_start.specs.declared.phase.Phase.TheVariants.{Failed}
use Rattle.ec_start.specs.Verdicts.{is_emergency, verdict, counted, heard_in, free_reply_verdict, free_message_verdict, free_verdict}
use Rattle.ec_start.specs.Running.{StartState, action_of, type_of, polled, judged, taken, max_polls}
use Rattle.ec_start.specs.Laws.{AsideIsAPoll, IsFound, IsFoundReply, IsPolled, MailboxFaultsEnd}

pub aside_is_a_poll : AsideIsAPoll
aside_is_a_poll s h = elim (cases_Bool (s.polls + 1 == max_polls)) [
  | inl t ↦ rw t refl
  | inr f ↦ rw f refl
]

-- ---- emergencies

-- an emergency has as many bytes as a message
pub emergency_long : (bytes : List ℕ) → is_emergency bytes ≡ true → message_length ≤ length bytes
emergency_long bytes e = leb-true message_length (length bytes) (and_parts _ _ e).0

-- ---- replies

aborts : (i : ℕ) (r : SdoRequest) (t : Transfer) (code : ℕ) → free_reply_verdict i r t (Aborted code) ≡ Fails (Abort i code)
aborts i r (Download value) code = refl
aborts i r (Upload value) code = refl

unexpected : (i : ℕ) (r : SdoRequest) (t : Transfer) → free_reply_verdict i r t Unexpected ≡ Fails (BadMailbox i)
unexpected i r (Download value) = refl
unexpected i r (Upload value) = refl

-- ---- the datagram that came back

by_action : (s : StartState) (d : Datagram) (a : Action) → action_of s ≡ a → taken s d ≡ judged s (verdict (length s.plan) s.place s.seen (type_of s.plan) a d)
by_action s d a e = ap (λ (b : Action). judged s (verdict (length s.plan) s.place s.seen (type_of s.plan) b d)) e

by_found : (s : StartState) (d : Datagram) (i : ℕ) (r : SdoRequest) → IsFound s i r d → taken s d ≡ judged s (free_verdict i r d.data_bytes)
by_found s d i r f =
    by_action s d _ f.action ∙ ap (λ (n : ℕ). judged s (if n == 0 then Again else counted n 1 s.place (free_verdict i r d.data_bytes))) f.counter

by_reply : (s : StartState) (d : Datagram) (i : ℕ) (r : SdoRequest) (reply : Reply) → IsFoundReply s i r d reply → taken s d ≡ judged s (free_reply_verdict i r r.transfer reply)
by_reply s d i r reply f =
    by_found s d i r f.found
    ∙ (ap (λ (b : Bool). judged s (if b then Aside (heard_in i d.data_bytes) else free_message_verdict i r (message_read d.data_bytes))) f.kept
    ∙ ap (λ (x : Reply). judged s (free_reply_verdict i r r.transfer x)) f.read)

-- ---- polls

polled_is : (s : StartState) → IsPolled s (polled s)
polled_is s = record {
  last = λ e. let t = eq-eqb (s.polls + 1) max_polls e in rw t refl;
  more = λ lt. let f = ne_eqb (s.polls + 1) max_polls (λ e. omega (arith, e, lt)) in rw f (refl, refl);
}

polled_as : (s t new : StartState) → new ≡ t → IsPolled s t → IsPolled s new
polled_as s t new e h = rw e h

heard_stays : (s : StartState) (h : Heard) → (judged s (Aside h)).heard ≡ Some h
heard_stays s h = ap (λ (t : StartState). t.heard) (aside_is_a_poll s h)

-- ---- the law

full_ends : (s : StartState) (n : ℕ) → n ≡ 0 → (judged s (counted n 1 s.place Next)).phase ≡ Failed (Counter s.place)
full_ends s n e = rw e refl

none_again : (s : StartState) (d : Datagram) (i : ℕ) (r : SdoRequest) → d.counter ≡ 0 → judged s (if d.counter == 0 then Again else counted d.counter 1 s.place (free_verdict i r d.data_bytes)) ≡ polled s
none_again s d i r e = rw e refl

aside_polls : (s : StartState) (d : Datagram) (i : ℕ) (r : SdoRequest) → IsFound s i r d → is_aside d.data_bytes ≡ true → IsPolled s (taken s d) × ((taken s d).heard ≡ Some (heard_in i d.data_bytes))
aside_polls s d i r f aside =
    let h : Heard = heard_in i d.data_bytes in
    let e : taken s d ≡ judged s (Aside h)
    = by_found s d i r f ∙ ap (λ (b : Bool). judged s (if b then Aside (heard_in i d.data_bytes) else free_message_verdict i r (message_read d.data_bytes))) aside in
    let p = polled_is (record s { heard = Some h }) in
    (polled_as s (judged s (Aside h)) (taken s d) e (record { last = p.last; more = p.more }), ap (λ (t : StartState). t.heard) e ∙ heard_stays s h)

pub mailbox_faults_end : MailboxFaultsEnd
mailbox_faults_end = record {
  full = λ s d i before b r e zero. ap (λ (t : StartState). t.phase) (by_action s d _ e) ∙ full_ends s d.counter zero;
  refused = λ s d i r code f. ap (λ (t : StartState). t.phase) (by_reply s d i r (Aborted code) f ∙ ap (judged s) (aborts i r r.transfer code));
  other = λ s d i r f. ap (λ (t : StartState). t.phase) (by_reply s d i r Unexpected f ∙ ap (judged s) (unexpected i r r.transfer));
  aside = aside_polls;
  none = λ s d i b r e zero. polled_as s (polled s) (taken s d) (by_action s d _ e ∙ none_again s d i r zero) (polled_is s);
}
