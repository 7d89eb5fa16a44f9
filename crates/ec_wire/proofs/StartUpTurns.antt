-- Turns of a start-up over a wire, and where they lead.
use Rattle.std.proofs.Common.{ℕ, ◌+◌, ◌≡◌, ◌≢◌, ◌==◌, inl, inr, List, [], ◌∷◌, ◌++◌, length, map, Bool, true, false, if◌then◌else◌, Some, refl, sym, ◌∙◌, ap, subst, arith}
use Rattle.std.proofs.lemmas.Bool.{cases_eq, eq-eqb, ne_eqb}
use Rattle.std.proofs.lemmas.List.Elements.{All-push}
use Rattle.ec_bits.proofs.AnyLaws.{if_true, if_false}
use Rattle.ec_frame.specs.Datagram.{Datagram}
use Rattle.ec_start.specs.declared.phase.Phase.{Phase}
use Rattle.ec_start.specs.declared.phase.Phase.TheVariants.{Idle, Sent, Ready, Failed}
use Rattle.ec_start.specs.declared.phase.NextFrame.{NextFrame}
use Rattle.ec_start.specs.declared.phase.NextFrame.TheVariants.{Send, Waiting, Ended}
use Rattle.ec_start.specs.declared.error.StartError.TheVariants.{TooSlow, NumbersSpent}
use Rattle.ec_start.specs.declared.verdict.Verdict.{Verdict}
use Rattle.ec_start.specs.declared.verdict.Verdict.TheVariants.{Next, Word, Fed, Again, Aside, Fails}
use Rattle.ec_start.specs.Verdicts.{verdict}
use Rattle.ec_start.specs.Running.{StartState, Shape, shape, IsStartTaken, action_of, asked, asked_by, next_frame, next_frame_by, given_up, given_up_by, is_ended, judged, last_number, second, sending, taken, type_of}
use Rattle.ec_start.specs.Laws.{HasSamePlan}
use Rattle.ec_start.proofs.LawLemmas.{plans_stay}
use Rattle.ec_wire.specs.Wires.{WireState}
use Rattle.ec_wire.specs.BringingUp.{AreForeign, IsAnswered, IsBroughtUp, IsNextFrame, IsTurn, IsUnanswered, Rests, Waits, Loses, Goes}

-- ---- numbers

again-next : (s : StartState) (b : Bool) → (let t : StartState = if b then record s { phase = Failed (TooSlow s.place) } else record s { fed = 0; polls = s.polls + 1; phase = Idle } in t.next) ≡ s.next
again-next s true = refl
again-next s false = refl

judged-next : (s : StartState) (x : Verdict) → (judged s x).next ≡ s.next
judged-next s Next = refl
judged-next s (Word value) = refl
judged-next s Fed = refl
judged-next s Again = again-next s (s.polls + 1 == 1000)
judged-next s (Aside heard) = again-next (record s { heard = Some heard }) (s.polls + 1 == 1000)
judged-next s (Fails f) = refl

taken-next : (s : StartState) (d : Datagram) → (taken s d).next ≡ s.next
taken-next s d = judged-next s (verdict (length s.plan) s.place s.seen (type_of s.plan) (action_of s) d)

-- two datagrams have a second one
has-second : (ds : List Datagram) (a b : Shape) → map shape ds ≡ a ∷ b ∷ [] → (d : Datagram) × (second ds ≡ Some d)
has-second [] a b e = absurd (let f : length (map shape []) ≡ 2 = ap length e in omega (arith, f))
has-second (x ∷ []) a b e = absurd (let f : length (map shape (x ∷ [])) ≡ 2 = ap length e in omega (arith, f))
has-second (x ∷ y ∷ ds) a b e = (y, refl)

-- what is kept leaves the number
kept-next : (s t : StartState) (payload : List ℕ) → IsStartTaken s payload true t → t.next ≡ s.next
kept-next s t payload h =
    let o = h.only refl in
    let d = has-second o.frame.datagrams _ _ o.answer.shapes in
    ap (λ (x : StartState). x.next) (h.kept o.frame d.0 refl o.spelled d.1) ∙ taken-next s d.0

by-phase : (s : StartState) (p : Phase) → next_frame_by s p ≡ Send → (s.next ≢ last_number) × (asked_by s p ≡ sending s)
by-phase s Idle f = elim (cases_eq s.next last_number) [
  | inl z ↦ absurd (let e : next_frame_by s Idle ≡ Ended = if_true _ _ _ (eq-eqb s.next last_number z) in let g : Send ≡ Ended = sym f ∙ e in cc)
  | inr n ↦ (n, if_false _ _ _ (ne_eqb s.next last_number n))
]
by-phase s (Sent number) f = absurd (let g : Waiting ≡ Send = f in cc)
by-phase s Ready f = absurd (let g : Ended ≡ Send = f in cc)
by-phase s (Failed error) f = absurd (let g : Ended ≡ Send = f in cc)

pub turn_next : (s t : StartState) (w v : WireState) → IsTurn s t w v → t.next ≡ s.next + 1
turn_next s t w v h = kept-next (asked s) t h.answered.answer h.answered.kept ∙ ap (λ (x : StartState). x.next) (by-phase s s.phase h.sends).1

pub turn_left : (s t : StartState) (w v : WireState) → IsTurn s t w v → s.next ≢ last_number
turn_left s t w v h = (by-phase s s.phase h.sends).0

-- ---- turns one after the other

-- so many turns were made, and wherever it leads from here it led from the beginning
pub record AreTurns (s t : StartState) (w v : WireState) (number : ℕ) : Type 0 where
  pub on : (e : StartState) (x : WireState) → IsBroughtUp t v e x → IsBroughtUp s w e x
  pub next_number : t.next ≡ number

pub no_turns : (s : StartState) (w : WireState) → AreTurns s s w w s.next
no_turns s w = record { on = λ e x h. h; next_number = refl }

pub one_turn : (s t u : StartState) (w v x : WireState) (number : ℕ) → AreTurns s t w v number → IsTurn t u v x → AreTurns s u w x (number + 1)
one_turn s t u w v x number h k = record {
  on = λ e y up. h.on e y (Goes t u e v x y k up);
  next_number = turn_next t u v x k ∙ ap (λ (n : ℕ). n + 1) h.next_number;
}

-- ---- the end

rests-ended : (s : StartState) (p : Phase) → s.phase ≡ p → next_frame_by s p ≡ Ended → is_ended (asked_by s p).phase ≡ true
rests-ended s Idle e f = elim (cases_eq s.next last_number) [
  | inl z ↦ ap (λ (x : StartState). is_ended x.phase) (if_true (s.next == last_number) (record s { phase = Failed NumbersSpent }) (sending s) (eq-eqb s.next last_number z))
  | inr n ↦ absurd (let g : next_frame_by s Idle ≡ Send = if_false _ _ _ (ne_eqb s.next last_number n) in let h : Send ≡ Ended = sym g ∙ f in cc)
]
rests-ended s (Sent number) e f = absurd (let g : Waiting ≡ Ended = f in cc)
rests-ended s Ready e f = ap is_ended e
rests-ended s (Failed error) e f = ap is_ended e

given-up-ended : (s : StartState) (p : Phase) → s.phase ≡ p → is_ended (given_up_by s p).phase ≡ true
given-up-ended s Idle e = refl
given-up-ended s (Sent number) e = refl
given-up-ended s Ready e = ap is_ended e
given-up-ended s (Failed error) e = ap is_ended e

pub brought_ended : (s e : StartState) (w x : WireState) → IsBroughtUp s w e x → is_ended e.phase ≡ true
brought_ended _ _ _ _ (Rests s w f) = rests-ended s s.phase refl f
brought_ended _ _ _ _ (Waits s w f) = given-up-ended s s.phase refl
brought_ended _ _ _ _ (Loses s w v frame f n u) = given-up-ended (asked s) (asked s).phase refl
brought_ended _ _ _ _ (Goes s t e w v x k up) = brought_ended t e v x up

-- ---- the plan

one-more : (s t u : StartState) → HasSamePlan s t → HasSamePlan t u → HasSamePlan s u
one-more s t u h k = record { plan = k.plan ∙ h.plan; feeds = k.feeds ∙ h.feeds }

again-plan : (s : StartState) (b : Bool) → HasSamePlan s (if b then record s { phase = Failed (TooSlow s.place) } else record s { fed = 0; polls = s.polls + 1; phase = Idle })
again-plan s true = record { plan = refl; feeds = refl }
again-plan s false = record { plan = refl; feeds = refl }

judged-plan : (s : StartState) (x : Verdict) → HasSamePlan s (judged s x)
judged-plan s Next = record { plan = refl; feeds = refl }
judged-plan s (Word value) = record { plan = refl; feeds = refl }
judged-plan s Fed = record { plan = refl; feeds = refl }
judged-plan s Again = again-plan s (s.polls + 1 == 1000)
judged-plan s (Aside heard) = let h = again-plan (record s { heard = Some heard }) (s.polls + 1 == 1000) in record { plan = h.plan; feeds = h.feeds }
judged-plan s (Fails f) = record { plan = refl; feeds = refl }

kept-plan : (s t : StartState) (payload : List ℕ) → IsStartTaken s payload true t → HasSamePlan s t
kept-plan s t payload h =
    let o = h.only refl in
    let d = has-second o.frame.datagrams _ _ o.answer.shapes in
    subst (HasSamePlan s) (sym (h.kept o.frame d.0 refl o.spelled d.1)) (judged-plan s (verdict (length s.plan) s.place s.seen (type_of s.plan) (action_of s) d.0))

asked-plan : (s : StartState) → HasSamePlan s (asked s)
asked-plan s = (plans_stay s).next_keeps

given-up-plan : (s : StartState) → HasSamePlan s (given_up s)
given-up-plan s = (plans_stay s).give_up_keeps

pub brought_plan : (s e : StartState) (w x : WireState) → IsBroughtUp s w e x → HasSamePlan s e
brought_plan _ _ _ _ (Rests s w f) = asked-plan s
brought_plan _ _ _ _ (Waits s w f) = given-up-plan s
brought_plan _ _ _ _ (Loses s w v frame f n u) = one-more s (asked s) (given_up (asked s)) (asked-plan s) (given-up-plan (asked s))
brought_plan _ _ _ _ (Goes s t e w v x k up) = one-more s t e (one-more s (asked s) t (asked-plan s) (kept-plan (asked s) t k.answered.answer k.answered.kept)) (brought_plan t e v x up)

-- ---- payloads that don't answer

pub foreign_none : (s : StartState) → AreForeign s []
foreign_none s = λ k d l. absurd (omega (arith, l))

pub foreign_push : (s t u : StartState) (ps : List (List ℕ)) (p : List ℕ) (kept : Bool) → AreForeign s ps → t ≡ s → kept ≡ false → IsStartTaken t p kept u → AreForeign s (ps ++ p ∷ [])
foreign_push s t u ps p kept h same not_kept took =
    let stays : u ≡ s = took.foreign not_kept ∙ same in
    let one : IsStartTaken s p false s = subst (λ (x : StartState). IsStartTaken s p false x) stays (subst (λ (x : StartState). IsStartTaken x p false u) same (subst (λ (b : Bool). IsStartTaken t p b u) not_kept took)) in
    All-push (λ (x : List ℕ). IsStartTaken s x false s) ps p h one

-- ---- where a turn leads

pub turn_made : (s a t : StartState) (w v : WireState) (frame items : List ℕ) (answer : NextFrame) → answer ≡ Send → answer ≡ next_frame s → a ≡ asked s → (answer ≡ Send → IsNextFrame s items)
    → frame ≡ items → IsAnswered a t frame w v → IsTurn s t w v
turn_made s a t w v frame items answer is told state written same h = record {
  frame = frame;
  sends = sym told ∙ is;
  is_next = subst (IsNextFrame s) (sym same) (written is);
  answered = subst (λ (x : StartState). IsAnswered x t frame w v) state h;
}

pub rests_there : (s a : StartState) (w : WireState) (answer : NextFrame) → answer ≡ Ended → answer ≡ next_frame s → a ≡ asked s → IsBroughtUp s w a w
rests_there s a w answer is told state = subst (λ (x : StartState). IsBroughtUp s w x w) (sym state) (Rests s w (sym told ∙ is))

waiting-same : (s : StartState) (p : Phase) → next_frame_by s p ≡ Waiting → asked_by s p ≡ s
waiting-same s Idle f = absurd (elim (cases_eq s.next last_number) [
  | inl z ↦ let e : next_frame_by s Idle ≡ Ended = if_true _ _ _ (eq-eqb s.next last_number z) in let g : Waiting ≡ Ended = sym f ∙ e in cc
  | inr n ↦ let e : next_frame_by s Idle ≡ Send = if_false _ _ _ (ne_eqb s.next last_number n) in let g : Waiting ≡ Send = sym f ∙ e in cc
])
waiting-same s (Sent number) f = refl
waiting-same s Ready f = refl
waiting-same s (Failed error) f = refl

pub waits_there : (s a g : StartState) (w : WireState) (answer : NextFrame) → answer ≡ Waiting → answer ≡ next_frame s → a ≡ asked s → g ≡ given_up a → IsBroughtUp s w g w
waits_there s a g w answer is told state ends =
    let waits : next_frame s ≡ Waiting = sym told ∙ is in
    let same : g ≡ given_up s = ends ∙ ap given_up (state ∙ waiting-same s s.phase waits) in
    subst (λ (x : StartState). IsBroughtUp s w x w) (sym same) (Waits s w waits)

pub loses_there : (s a t g : StartState) (w v : WireState) (frame items : List ℕ) (answer : NextFrame) → answer ≡ Send → answer ≡ next_frame s → a ≡ asked s → (answer ≡ Send → IsNextFrame s items)
    → frame ≡ items → t ≡ a → g ≡ given_up t → IsUnanswered a frame w v → IsBroughtUp s w g v
loses_there s a t g w v frame items answer is told state written same kept ends h =
    subst (λ (x : StartState). IsBroughtUp s w x v) (sym (ends ∙ ap given_up (kept ∙ state)))
    (Loses s w v frame (sym told ∙ is) (subst (IsNextFrame s) (sym same) (written is)) (subst (λ (x : StartState). IsUnanswered x frame w v) state h))

-- no number is left
pub last_turn : (b : Bool) (s t u : StartState) (w v x : WireState) (number : ℕ) → AreTurns s t w v number → number ≡ last_number → (b ≡ true → IsTurn t u v x) → (b ≡ false → IsBroughtUp t v u x)
    → IsBroughtUp s w u x
last_turn true s t u w v x number h last made ended = absurd (turn_left t u v x (made refl) (h.next_number ∙ last))
last_turn false s t u w v x number h last made ended = h.on u x (ended refl)

pub kept_as : (s t u : StartState) (p : List ℕ) (kept : Bool) → t ≡ s → kept ≡ true → IsStartTaken t p kept u → IsStartTaken s p true u
kept_as s t u p kept same is took = subst (λ (x : StartState). IsStartTaken x p true u) same (subst (λ (b : Bool). IsStartTaken t p b u) is took)
