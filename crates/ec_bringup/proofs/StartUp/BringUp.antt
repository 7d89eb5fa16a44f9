-- Bringing up a start-up: its turns, its end, and that it comes up where nothing disturbs it.
use Rattle.ec_bringup.proofs.Words.{ℕ, zero, suc, ◌+◌, ◌<◌, ◌≤◌, ◌≡◌, ◌≢◌, ◌==◌, Bool, true, false, refl, sym, ◌∙◌, ap, subst, inl, inr, arith, if◌then◌else◌, List, length, map, nat_lt, both_ways, cases_eq, eq-eqb, ne_eqb, if_true, if_false, Datagram, Payload, IsFrame, with_datagrams, bare_payload, SlaveState, served, passes_ring, HasPassedRing, SlavePlan, Action, Phase, Idle, Sent, Ready, Failed, TooSlow, Lost, datagram_of, frame_of, script, StartState, action_of, asked, asked_by, next_frame, next_frame_by, begun, sending, taken, judged, max_polls, second, is_ended, is_sent, last_number, type_of, IsStartTaken, NextFrame, Send, Waiting, Ended, Verdict, Again, Fails, Fed, Feed, Aside, Some, polled, AllAgree, frames_up, taken_same, Rising, frame_at, all_passed, all_met, turned, turns, ArePlansWith, AreDevices, IsUpAndWorks, IsOnItsWay, rising, IsBroughtTo, BringUpRests as Rests, RunsOut, BringUpTurns as Turns}
use Rattle.ec_bringup.proofs.AllSlaves.RoundLaw.{round}
use Rattle.ec_bringup.proofs.StartUp.ComesUpLaw.{comes-up}
use Rattle.ec_bringup.proofs.OneFrame.FrameLaw.{gives_up, Says, take-says}

-- ---- one turn

-- a frame of a start-up that passed all slaves is kept
pub turn-kept : (s t : StartState) (ss passed : List SlaveState) (before after : List ℕ) (kept : Bool)
    → IsFrame before (bare_payload (frame_of (action_of s) s.next)) → HasPassedRing ss before passed after → IsStartTaken (sending s) after kept t → kept ≡ true
turn-kept s t ss passed before after kept written ring took =
    let p : Payload = bare_payload (frame_of (action_of s) s.next) in
    let r = round s s.next ss written.each.1.0 in
    (took.answers s.next (with_datagrams p (passes_ring ss (frame_of (action_of s) s.next)).datagrams) refl (ring.frame p written)).1 (record { shapes = r.answer.shapes; number_is = r.answer.number_is })

-- the frame is written, passes all slaves, each serves, and the frame is taken: that is a turn
pub turn-made : (s t : StartState) (ss passed : List SlaveState) (before after : List ℕ) (kept : Bool)
    → IsFrame before (bare_payload (frame_of (action_of s) s.next)) → HasPassedRing ss before passed after → IsStartTaken (sending s) after kept t
    → rising t (map served passed) ≡ turned (rising s ss)
turn-made s t ss passed before after kept written ring took =
    let p : Payload = bare_payload (frame_of (action_of s) s.next) in
    let r = round s s.next ss written.each.1.0 in
    let back : IsFrame after (with_datagrams p (passes_ring ss (frame_of (action_of s) s.next)).datagrams) = ring.frame p written in
    let is : kept ≡ true = turn-kept s t ss passed before after kept written ring took in
    let state : t ≡ taken (sending s) (all_passed ss (datagram_of (action_of s) s.next))
    = took.kept (with_datagrams p (passes_ring ss (frame_of (action_of s) s.next)).datagrams) (all_passed ss (datagram_of (action_of s) s.next)) is back (ap second r.datagrams) in
    let slaves : passed ≡ all_met ss (datagram_of (action_of s) s.next) = ring.slaves p written ∙ r.slaves in
    ap (λ (x : StartState). rising x (map served passed)) state
    ∙ ap (λ (xs : List SlaveState). rising (taken (sending s) (all_passed ss (datagram_of (action_of s) s.next))) (map served xs)) slaves

-- a frame is sent where the start-up runs and a number is left
pub record IsSending (s : StartState) : Type 0 where
  pub idle : s.phase ≡ Idle
  pub left : s.next ≢ last_number
  pub state : asked s ≡ sending s

by-phase : (s : StartState) (p : Phase) → s.phase ≡ p → next_frame_by s p ≡ Send → (s.next ≢ last_number) × (p ≡ Idle) × (asked_by s p ≡ sending s)
by-phase s Idle e f = elim (cases_eq s.next last_number) [
  | inl z ↦ absurd (let g : Ended ≡ Send = sym (if_true _ _ _ (eq-eqb s.next last_number z)) ∙ f in cc)
  | inr n ↦ (n, refl, if_false _ _ _ (ne_eqb s.next last_number n))
]
by-phase s (Sent number) e f = absurd (let g : Waiting ≡ Send = f in cc)
by-phase s _ e f = absurd (let g : Ended ≡ Send = f in cc)

pub is-sending : (s : StartState) → next_frame s ≡ Send → IsSending s
is-sending s e = let k = by-phase s s.phase refl e in record { idle = k.1; left = k.0; state = k.2 }

-- the same of what the calls return
pub turn-whole : (s asks t : StartState) (answer : NextFrame) (ss passed served_on : List SlaveState) (written before after : List ℕ) (kept : Bool)
    → answer ≡ Send → answer ≡ next_frame s → asks ≡ asked s → (answer ≡ Send → IsFrame written (bare_payload (frame_of (action_of s) s.next))) → before ≡ written
    → HasPassedRing ss before passed after → served_on ≡ map served passed → IsStartTaken asks after kept t
    → rising t served_on ≡ turned (rising s ss)
turn-whole s asks t answer ss passed served_on written before after kept sends told state frame same ring serves took =
    ap (rising t) serves
    ∙ turn-made s t ss passed before after kept (subst (λ (xs : List ℕ). IsFrame xs (bare_payload (frame_of (action_of s) s.next))) (sym same) (frame sends)) ring
    (subst (λ (x : StartState). IsStartTaken x after kept t) (state ∙ (is-sending s (sym told ∙ sends)).state) took)

-- ---- its end

pub has-ended : (r e : Rising) → IsBroughtTo r e → is_ended e.start.phase ≡ true
has-ended _ _ (Rests r h) = h
has-ended _ _ (RunsOut r h n) = refl
has-ended _ _ (Turns r e h n rest) = has-ended (turned r) e rest

pub keeps-plan : (r e : Rising) → IsBroughtTo r e → e.start.plan ≡ r.start.plan
keeps-plan _ _ (Turns r e h n rest) = keeps-plan (turned r) e rest ∙ (taken_same (sending r.start) (all_passed r.slaves (frame_at r))).plan
keeps-plan _ _ _ = refl

-- a start-up that sends nothing, though no frame is outstanding, ends there
stopped-by : (s : StartState) (ss : List SlaveState) (p : Phase) → s.phase ≡ p → is_sent p ≡ false → next_frame_by s p ≢ Send → IsBroughtTo (rising s ss) (rising (asked_by s p) ss)
stopped-by s ss Idle e free none = elim (cases_eq s.next last_number) [
  | inl z ↦ subst (λ (x : StartState). IsBroughtTo (rising s ss) (rising x ss)) (sym (if_true _ _ _ (eq-eqb s.next last_number z))) (RunsOut (rising s ss) e z)
  | inr n ↦ absurd (none (if_false _ _ _ (ne_eqb s.next last_number n)))
]
stopped-by s ss (Sent number) e free none = absurd (both_ways true free refl)
stopped-by s ss _ e free none = Rests (rising s ss) (ap is_ended e)

-- ---- the numbers

abbrev lost_phase : Phase → Bool
lost_phase (Failed error) = gives_up error
lost_phase _ = false

-- a verdict takes no number, leaves no frame outstanding, and gives no start-up up
abbrev Follows : StartState → StartState → Type 0
Follows s t = (t.next ≡ s.next) × (is_sent t.phase ≡ false) × (lost_phase t.phase ≡ false)

polled-follows : (s : StartState) → Follows s (polled s)
polled-follows s = by (s.polls + 1 == max_polls)
  where
    by : (b : Bool) → Follows s (if b then record s { phase = Failed (TooSlow s.place) } else record s { fed = 0; polls = s.polls + 1; phase = Idle })
    by true = (refl, refl, refl)
    by false = (refl, refl, refl)

judged-follows : (a : Action) (d : Datagram) (s : StartState) (v : Verdict) → Says a d v → Follows s (judged s v)
judged-follows a d s Again h = polled-follows s
judged-follows a d s (Aside heard) h = polled-follows (record s { heard = Some heard })
judged-follows a d s (Fails error) h = (refl, refl, h)
judged-follows a d s Fed h = (refl, refl, refl)
judged-follows a d s _ h =
    elim (nat_lt (s.place + 1) (length (script s.plan))) as (λ b. (s.next ≡ s.next) × (is_sent (if b then Idle else Ready) ≡ false) × (lost_phase (if b then Idle else Ready) ≡ false)) [
      | true ↦ (refl, refl, refl)
      | false ↦ (refl, refl, refl)
    ]

-- so a turn takes one number
turned-follows : (r : Rising) → Follows (sending r.start) (turned r).start
turned-follows r =
    let d : Datagram = all_passed r.slaves (frame_at r) in
    judged-follows (action_of r.start) d (sending r.start) _ (take-says (length r.start.plan) r.start.place r.start.seen (type_of r.start.plan) (action_of r.start) d)

-- what the loop keeps: no frame is outstanding, and the number that comes next
pub record AreTurns (r : Rising) (s : StartState) (ss : List SlaveState) (number : ℕ) : Type 0 where
  pub free : is_sent s.phase ≡ false
  -- where it leads from here, it leads from the beginning
  pub on : (e : Rising) → IsBroughtTo (rising s ss) e → IsBroughtTo r e
  pub next_number : s.next ≡ number

pub turns-go : (r : Rising) (s t : StartState) (ss xs : List SlaveState) (number : ℕ) → AreTurns r s ss number → next_frame s ≡ Send → rising t xs ≡ turned (rising s ss) → AreTurns r t xs (number + 1)
turns-go r s t ss xs number h sends made =
    let is : t ≡ (turned (rising s ss)).start = ap (λ (x : Rising). x.start) made in
    record {
      free = ap (λ (x : StartState). is_sent x.phase) is ∙ (turned-follows (rising s ss)).1;
      on = λ e b. let k = is-sending s sends in h.on e (Turns (rising s ss) e k.idle k.left (subst (λ (x : Rising). IsBroughtTo x e) made b));
      next_number = ap (λ (x : StartState). x.next) is ∙ ((turned-follows (rising s ss)).0 ∙ ap (λ (n : ℕ). n + 1) h.next_number);
    }

-- nothing is sent with the last number
pub none-left : (s : StartState) → s.next ≡ last_number → next_frame s ≢ Send
none-left s e f = (is-sending s f).left e

pub turns-end : (r : Rising) (s t : StartState) (ss xs : List SlaveState) (number : ℕ) → AreTurns r s ss number → next_frame s ≢ Send → (next_frame s ≢ Send → t ≡ asked s) → (next_frame s ≢ Send → xs ≡ ss)
    → IsBroughtTo r (rising t xs)
turns-end r s t ss xs number h none state kept =
    h.on (rising t xs) (subst (λ (x : StartState). IsBroughtTo (rising s ss) (rising x xs)) (sym (state none))
    (subst (λ (ys : List SlaveState). IsBroughtTo (rising s ss) (rising (asked s) ys)) (sym (kept none)) (stopped-by s ss s.phase refl h.free none)))

-- ---- it isn't given up

never-lost : (r e : Rising) → IsBroughtTo r e → lost_phase r.start.phase ≡ false → lost_phase e.start.phase ≡ false
never-lost _ _ (Rests r h) f = f
never-lost _ _ (RunsOut r h n) f = refl
never-lost _ _ (Turns r e h n rest) f = never-lost (turned r) e rest (turned-follows r).2

pub not-given-up : (s t : StartState) (ss xs : List SlaveState) → IsBroughtTo (rising s ss) (rising t xs) → s.phase ≡ Idle → t.phase ≢ Failed Lost
not-given-up s t ss xs b e f = both_ways (lost_phase t.phase) (never-lost (rising s ss) (rising t xs) b (ap lost_phase e)) (ap lost_phase f)

-- ---- undisturbed

ready-not : (p : Phase) → p ≡ Ready → p ≡ Idle → ⊥
ready-not p e h = both_ways (is_ended p) (ap is_ended h) (ap is_ended e)

-- behind k turns of a script that is on its way
follow : (r e : Rising) (from n : ℕ) → from + n ≤ last_number → (turns n r).start.phase ≡ Ready → ((k : ℕ) → k < n → IsOnItsWay (from + k) (turns k r)) → IsBroughtTo r e → e ≡ turns n r
follow _ _ from zero few ready way (Rests r h) = refl
follow _ _ from zero few ready way (RunsOut r h l) = absurd (ready-not r.start.phase ready h)
follow _ _ from zero few ready way (Turns r e h l rest) = absurd (ready-not r.start.phase ready h)
follow _ _ from (suc n) few ready way (Rests r h) = absurd (both_ways (is_ended r.start.phase) (ap is_ended (way 0 (omega arith)).idle) h)
follow _ _ from (suc n) few ready way (RunsOut r h l) =
    let here : r.start.next ≡ from + 0 = (way 0 (omega arith)).next_number in
    absurd (omega (arith, few, here, l))
follow _ _ from (suc n) few ready way (Turns r e h l rest) =
    follow (turned r) e (from + 1) n (omega (arith, few)) ready
    (λ k b. let w = way (suc k) (omega (arith, b)) in let same : from + suc k ≡ from + 1 + k = omega arith in subst (λ (x : ℕ). IsOnItsWay x (turns (suc k) r)) same w)
    rest

pub up : (ps : List SlavePlan) (fs : List Feed) (from : ℕ) (s t : StartState) (ss xs : List SlaveState) → IsBroughtTo (rising s ss) (rising t xs) → ArePlansWith ps fs → AllAgree ps → s ≡ begun ps fs from → AreDevices ps ss
    → from + frames_up ps fs ss ≤ last_number → IsUpAndWorks ps (from + frames_up ps fs ss) (rising t xs)
up ps fs from s t ss xs brought plans agree begins devices few =
    let c = comes-up ps fs plans agree from ss devices in
    let b : IsBroughtTo (rising (begun ps fs from) ss) (rising t xs) = subst (λ (x : StartState). IsBroughtTo (rising x ss) (rising t xs)) begins brought in
    let e : rising t xs ≡ turns (frames_up ps fs ss) (rising (begun ps fs from) ss) = follow (rising (begun ps fs from) ss) (rising t xs) from (frames_up ps fs ss) few c.0.ready c.1 b in
    subst (IsUpAndWorks ps (from + frames_up ps fs ss)) (sym e) c.0
