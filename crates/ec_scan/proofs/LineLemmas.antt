-- What a line has sent, with one frame more or with none.
use Rattle.std.proofs.Common.{ℕ, ◌+◌, ◌-◌, ◌≤◌, ◌≡◌, ◌≢◌, List, [], ◌∷◌, length, map, min, take, All, Bool, false, Some, Result, Ok, Err, IfOk, refl, sym, ap, subst, ◌∙◌, arith}
use Rattle.std.proofs.lemmas.List.{append-nil, length-append, take_all}
use Rattle.std.proofs.lemmas.List.Elements.{All-push}
use Rattle.ec_frame.specs.Building.{bare_payload}
use Rattle.ec_frame.specs.Datagram.{Datagram, IsDatagram, spelling}
use Rattle.ec_frame.specs.Frame.{IsFrame}
use Rattle.ec_frame.specs.Names.{Shape, shape}
use Rattle.ec_start.specs.Actions.{datagram_of, frame_of}
use Rattle.ec_start.specs.Answered.{IsAnswerIn}
use Rattle.ec_start.specs.Doable.{IsDoable}
use Rattle.ec_start.specs.declared.action.Action.{Action}
use Rattle.ec_start.specs.declared.action.Action.TheVariants.{CountSlaves, AskInit, AwaitInit, ClearFmmus, ClearManagers, ClearStations, NameSlave, AskWord, AwaitWord, SetManager, SetFmmu, AskState, AwaitState, SendRequest, AwaitReply, AwaitFreeReply, AwaitInitState, ClearAllFmmus, ClearAllManagers, AssignSii, ClearSiiError, AwaitCleanInit, FeedPart}
use Rattle.ec_start.specs.declared.error.StartError.{StartError}
use Rattle.ec_wire.specs.Wires.{Trace, Nothing, Number, Payloads, WireState, Carries, grown}
use Rattle.ec_scan.specs.Lines.{HasSentFrames, IsAnswered, IsHeard, IsOnLine, LineState}
use Rattle.ec_scan.specs.Scanning.{IsOfScan, IsScanFrame}

pub one_frame_more : (t : Trace) (n : ℕ) (frame : List ℕ) → HasSentFrames t n → IsScanFrame frame → HasSentFrames (grown t (frame ∷ [])) (n + 1)
one_frame_more Nothing n frame h s = tt
one_frame_more (Number told) n frame h s = omega (arith, h)
one_frame_more (Payloads told) n frame h s =
    (let e = length-append told (frame ∷ []) in let few = h.0 in omega (arith, e, few), All-push IsScanFrame told frame h.1 s)

pub no_frame_more : (t : Trace) (n : ℕ) → HasSentFrames t n → HasSentFrames (grown t []) n
no_frame_more Nothing n h = tt
no_frame_more (Number told) n h = omega (arith, h)
no_frame_more (Payloads told) n h =
    subst (λ (ps : List (List ℕ)). (length ps ≤ n) × All IsScanFrame ps) (sym (append-nil told)) h

pub more_room : (t : Trace) (n : ℕ) → HasSentFrames t n → HasSentFrames t (n + 1)
more_room Nothing n h = tt
more_room (Number told) n h = omega (arith, h)
more_room (Payloads told) n h = (let few = h.0 in omega (arith, few), h.1)

-- a call that sent a frame, and one that sent none
pub sent_one : (w v : WireState) (n : ℕ) (frame : List ℕ) (got : List (List ℕ)) → HasSentFrames w.sent n → IsScanFrame frame → Carries w v (frame ∷ []) got → HasSentFrames v.sent (n + 1)
sent_one w v n frame got h s c = subst (λ (t : Trace). HasSentFrames t (n + 1)) (sym c.sends) (one_frame_more w.sent n frame h s)

pub sent_none : (w v : WireState) (n : ℕ) (got : List (List ℕ)) → HasSentFrames w.sent n → Carries w v [] got → HasSentFrames v.sent n
sent_none w v n got h c = subst (λ (t : Trace). HasSentFrames t n) (sym c.sends) (no_frame_more w.sent n h)

-- ---- the line behind a call

-- a frame of a scan was sent
pub sent_online : (w v : WireState) (number left : ℕ) (answer : List ℕ) (a : Action) (frame : List ℕ)
    → IsOnLine w number left answer → left ≢ 0 → IsOfScan a → IsDoable a → IsFrame frame (bare_payload (frame_of a number)) → Carries w v (frame ∷ []) []
    → IsOnLine v (number + 1) (left - 1) answer
sent_online w v number left answer a frame h some of_scan doable spelled c =
    let bound = h.bound in
    record {
      sent = sent_one w v number frame [] h.sent (record { action = a; number = number; of_scan = of_scan; doable = doable; spelled = spelled }) c;
      bound = omega (arith, bound, some);
      short = h.short;
    }

-- it couldn't be sent
pub unsent_online : (w v : WireState) (number left : ℕ) (answer : List ℕ)
    → IsOnLine w number left answer → left ≢ 0 → Carries w v [] [] → IsOnLine v (number + 1) (left - 1) answer
unsent_online w v number left answer h some c =
    let bound = h.bound in
    record {
      sent = more_room v.sent number (sent_none w v number [] h.sent c);
      bound = omega (arith, bound, some);
      short = h.short;
    }

-- something may have come
pub heard_online : (w v : WireState) (number left : ℕ) (answer : List ℕ) (got : List (List ℕ))
    → IsOnLine w number left answer → Carries w v [] got → IsOnLine v number left answer
heard_online w v number left answer got h c = record { sent = sent_none w v number got h.sent c; bound = h.bound; short = h.short }

pub if_answered : (a : Action) (s t : LineState) (frame : List ℕ) (sent : WireState) (r : Result ℕ StartError)
    → IsFrame frame (bare_payload (frame_of a s.number)) → Carries s.wire sent (frame ∷ []) [] → t.asked ≡ Some a → t.number ≡ s.number + 1 → IfOk r (IsHeard a s.number t)
    → IfOk r (IsAnswered a s t)
if_answered a s t frame sent (Ok counter) spelled carried asked next heard =
    record { frame = frame; sent = sent; spelled = spelled; carried = carried; asked = asked; next = next; heard = heard }
if_answered a s t frame sent (Err e) spelled carried asked next heard = tt

-- ---- what is heard

-- the length of an action's data is that of any number
one_length : (a : Action) (number : ℕ) → length (datagram_of a number).data_bytes ≡ length (datagram_of a 0).data_bytes
one_length CountSlaves number = refl
one_length AskInit number = refl
one_length AwaitInit number = refl
one_length ClearFmmus number = refl
one_length ClearManagers number = refl
one_length ClearStations number = refl
one_length (NameSlave i) number = refl
one_length (AskWord i which) number = refl
one_length (AwaitWord i which) number = refl
one_length (SetManager i n m r) number = refl
one_length (SetFmmu i n f start) number = refl
one_length (AskState i state) number = refl
one_length (AwaitState i state) number = refl
one_length (SendRequest i before b r) number = refl
one_length (AwaitReply i b r) number = refl
one_length (AwaitFreeReply i b r) number = refl
one_length AwaitInitState number = refl
one_length ClearAllFmmus number = refl
one_length ClearAllManagers number = refl
one_length (AssignSii access) number = refl
one_length ClearSiiError number = refl
one_length (AwaitCleanInit i) number = refl
one_length (FeedPart f) number = refl

abbrev second_bytes : List Shape → ℕ
second_bytes [] = 0
second_bytes (s ∷ []) = 0
second_bytes (s ∷ t ∷ ss) = t.bytes

answer_length : (a : Action) (number : ℕ) (payload part : List ℕ) (x : IsAnswerIn payload a number part) → length x.datagram.data_bytes ≡ length (datagram_of a 0).data_bytes
answer_length a number payload part x =
    ap second_bytes (sym (ap (map shape) x.both) ∙ x.answer.shapes) ∙ one_length a number

pub heard_is : (a : Action) (number counter long size : ℕ) (w v : WireState) (t : LineState) (payload part content : List ℕ)
    → Carries w v [] (payload ∷ []) → IsAnswerIn payload a number part
    → ((more : Bool) (d : Datagram) → IsDatagram d → part ≡ spelling more d → content ≡ d.data_bytes)
    → ((more : Bool) (d : Datagram) → IsDatagram d → part ≡ spelling more d → counter ≡ d.counter)
    → long ≡ length (datagram_of a 0).data_bytes → size ≡ min long (length content) → t.wire ≡ v → t.answer ≡ take size content
    → IsHeard a number t counter
heard_is a number counter long size w v t payload part content came answer bytes count long_is size_is wire kept =
    let e : content ≡ answer.datagram.data_bytes = bytes false answer.datagram answer.good answer.there in
    let n : length answer.datagram.data_bytes ≡ length (datagram_of a 0).data_bytes = answer_length a number payload part answer in
    let m : length content ≡ length answer.datagram.data_bytes = ap length e in
    let whole : take size content ≡ content = take_all size content (omega (arith, long_is, size_is, n, m)) in
    let all : t.answer ≡ answer.datagram.data_bytes = kept ∙ whole ∙ e in
    record {
      payload = payload;
      part = part;
      before = w;
      came = subst (λ (x : WireState). Carries w x [] (payload ∷ [])) (sym wire) came;
      answer = answer;
      counted = sym (count false answer.datagram answer.good answer.there);
      kept = sym all;
      long = ap length all ∙ n;
    }
