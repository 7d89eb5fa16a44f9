-- What is seen of an event, noted.
use Rattle.std.proofs.lemmas.List.{at_drop_more}
use Rattle.std.proofs.Common.{zero, suc, drop, get_or, length, ◌<◌, ◌≤◌, ◌+◌, arith, ℕ, ◌≡◌, refl, sym, ap, subst, List, [], ◌∷◌, ◌++◌, Bool, true, false, Option, None, Some, option_map}
use Rattle.ec_capture.specs.Captures.{Captured}
use Rattle.ec_capture.specs.Recordings.{Notes, Recording}
use Rattle.ec_capture.proofs.Noting.{notes_nothing, notes_then}
use Rattle.ec_world.specs.declared.event.Event.{Event}
use Rattle.ec_world.specs.declared.event.Event.TheVariants.{StartNext, Set, Begin, Pass, Lose, Return, Close, Serve, AppPut, AppGet, Fault, Reset, Stop}
use Rattle.std.specs.Prelude.{nat_lt}
use Rattle.ec_world.specs.declared.progress.Progress.{Progress}
use Rattle.ec_world.specs.Watching.{sent_of}
use Rattle.ec_world.specs.World.{Flight, IsStep, WorldState, can_happen, flight_progress}
use Rattle.cmd_sim.specs.CapturedEvents.{CapturesEvent, CapturesRun, Watched, leaves, next_event, captured_after, captured_back, captured_before, captured_if, captured_of, captured_parts, captured_sent}

-- a frame that leaves can leave
pub leaves_can : (w : WorldState) (e : Event) → leaves w e ≡ true → can_happen w e ≡ true
leaves_can w (Lose k) h = h
leaves_can w (Return k) h = h
leaves_can w StartNext h = cc
leaves_can w (Set v x) h = cc
leaves_can w Begin h = cc
leaves_can w (Pass k) h = cc
leaves_can w Close h = cc
leaves_can w (Serve s) h = cc
leaves_can w (AppPut s i x) h = cc
leaves_can w (AppGet s i) h = cc
leaves_can w (Fault s) h = cc
leaves_can w (Reset s) h = cc
leaves_can w Stop h = cc

-- where none leaves by an event that can be made, nothing is seen before
pub nothing_before : (time : ℕ) (w : WorldState) (e : Event) → leaves w e ≡ false → can_happen w e ≡ true → captured_before time w e ≡ []
nothing_before time w (Lose k) h can = cc
nothing_before time w (Return k) h can = cc
nothing_before time w StartNext h can = refl
nothing_before time w (Set v x) h can = refl
nothing_before time w Begin h can = refl
nothing_before time w (Pass k) h can = refl
nothing_before time w Close h can = refl
nothing_before time w (Serve s) h can = refl
nothing_before time w (AppPut s i x) h can = refl
nothing_before time w (AppGet s i) h can = refl
nothing_before time w (Fault s) h can = refl
nothing_before time w (Reset s) h can = refl
nothing_before time w Stop h can = refl

-- ---- a frame in a slot

pub slot_empty : (time : ℕ) (comment : Option (List ℕ)) (o : Option Flight) (r : Recording) → option_map flight_progress o ≡ None → Notes (captured_if time comment o) r r
slot_empty time comment None r none = notes_nothing r
slot_empty time comment (Some f) r none = cc

pub back_empty : (time : ℕ) (o : Option Flight) (r : Recording) → option_map flight_progress o ≡ None → Notes (captured_back time o) r r
back_empty time None r none = notes_nothing r
back_empty time (Some f) r none = cc

slot_unread : {X : Type 0} (o : Option Flight) (p : Progress) → option_map flight_progress o ≡ Some p → option_map (λ f. f.bytes) o ≡ None → X
slot_unread None p one none = cc
slot_unread (Some f) p one none = cc

pub slot_seen : (time : ℕ) (comment : Option (List ℕ)) (o : Option Flight) (p : Progress) (payload : List ℕ) (r s : Recording)
    → option_map flight_progress o ≡ Some p → option_map (λ f. f.bytes) o ≡ Some payload
    → Notes (record { interface = p.passed; time = time; passed = nat_lt 0 p.passed; payload = payload; comment = comment } ∷ []) r s → Notes (captured_if time comment o) r s
slot_seen time comment None p payload r s is bytes notes = cc
slot_seen time comment (Some f) p payload r s is bytes notes =
    let far : p ≡ flight_progress f = cc in let same : payload ≡ f.bytes = cc in
    subst (λ (xs : List ℕ). Notes (record { interface = f.passed; time = time; passed = nat_lt 0 f.passed; payload = xs; comment = comment } ∷ []) r s) same
    (subst (λ (q : Progress). Notes (record { interface = q.passed; time = time; passed = nat_lt 0 q.passed; payload = payload; comment = comment } ∷ []) r s) far notes)

pub back_seen : (time : ℕ) (o : Option Flight) (p : Progress) (payload : List ℕ) (r s : Recording)
    → option_map flight_progress o ≡ Some p → option_map (λ f. f.bytes) o ≡ Some payload
    → Notes (record { interface = 0; time = time; passed = nat_lt 0 p.passed; payload = payload; comment = None } ∷ []) r s → Notes (captured_back time o) r s
back_seen time None p payload r s is bytes notes = cc
back_seen time (Some f) p payload r s is bytes notes =
    let far : p ≡ flight_progress f = cc in let same : payload ≡ f.bytes = cc in
    subst (λ (xs : List ℕ). Notes (record { interface = 0; time = time; passed = nat_lt 0 f.passed; payload = xs; comment = None } ∷ []) r s) same
    (subst (λ (q : Progress). Notes (record { interface = 0; time = time; passed = nat_lt 0 q.passed; payload = payload; comment = None } ∷ []) r s) far notes)

pub slot_lost : (time : ℕ) (comment : Option (List ℕ)) (o : Option Flight) (p : Progress) (r : Recording) → option_map flight_progress o ≡ Some p → option_map (λ f. f.bytes) o ≡ None
    → Notes (captured_if time comment o) r r
slot_lost time comment o p r is none = slot_unread o p is none

pub back_lost : (time : ℕ) (o : Option Flight) (p : Progress) (r : Recording) → option_map flight_progress o ≡ Some p → option_map (λ f. f.bytes) o ≡ None → Notes (captured_back time o) r r
back_lost time o p r is none = slot_unread o p is none

-- ---- frames of parts

pub sent_seen : (time : ℕ) (o : Option (List ℕ)) (payload : List ℕ) (r s : Recording) → o ≡ Some payload
    → Notes (record { interface = 0; time = time; passed = false; payload = payload; comment = None } ∷ []) r s → Notes (captured_sent time o) r s
sent_seen time o payload r s is notes = subst (λ (x : Option (List ℕ)). Notes (captured_sent time x) r s) (sym is) notes

pub sent_none : (time : ℕ) (o : Option (List ℕ)) (r : Recording) → o ≡ None → Notes (captured_sent time o) r r
sent_none time o r is = subst (λ (x : Option (List ℕ)). Notes (captured_sent time x) r r) (sym is) (notes_nothing r)

pub parts_more : (time : ℕ) (w : WorldState) (n : ℕ) (a b c : Recording) → Notes (captured_parts time w n) a b → Notes (captured_sent time (sent_of w n)) b c → Notes (captured_parts time w (n + 1)) a c
parts_more time w n a b c first then =
    let e : n + 1 ≡ suc n = omega arith in
    rw e (notes_then (captured_parts time w n) (captured_sent time (sent_of w n)) a b c first then)

-- ---- an event

pub step_seen : (leaving : Bool) (time : ℕ) (old : WorldState) (e : Event) (new : WorldState) (r s t : Recording) → leaving ≡ leaves old e → can_happen old e ≡ true
    → (leaving ≡ true → Notes (captured_before time old e) r s) → (leaving ≡ false → s ≡ r) → Notes (captured_after time e new) s t → Notes (captured_of time old e new) r t
step_seen true time old e new r s t is can before same after = notes_then (captured_before time old e) (captured_after time e new) r s t (before refl) after
step_seen false time old e new r s t is can before same after =
    let none : captured_before time old e ≡ [] = nothing_before time old e (sym is) can in
    subst (λ (ss : List Captured). Notes (ss ++ captured_after time e new) r t) (sym none)
    (subst (λ (q : Recording). Notes (captured_after time e new) q t) (same refl) after)

-- what can't be made takes no frame away
pub cannot_leave : (w : WorldState) (e : Event) → can_happen w e ≡ false → leaves w e ≡ false
cannot_leave w (Lose k) h = h
cannot_leave w (Return k) h = h
cannot_leave w StartNext h = refl
cannot_leave w (Set v x) h = refl
cannot_leave w Begin h = refl
cannot_leave w (Pass k) h = refl
cannot_leave w Close h = refl
cannot_leave w (Serve s) h = refl
cannot_leave w (AppPut s i x) h = refl
cannot_leave w (AppGet s i) h = refl
cannot_leave w (Fault s) h = refl
cannot_leave w (Reset s) h = refl
cannot_leave w Stop h = refl

-- an event that was made, and its number
pub saw_made : (a : Watched) (old : WorldState) (e : Event) (new : WorldState) (number : ℕ) (s t : Recording) → number ≡ next_event a.events → IsStep old e new true
    → (leaves old e ≡ true → Notes (captured_before number old e) a.capture s) → (leaves old e ≡ false → s ≡ a.capture) → Notes (captured_after number e new) s t
    → CapturesEvent a old e new (record { capture = t; events = number })
saw_made a old e new number s t is step before same after = record {
  events = is;
  notes = subst (λ (n : ℕ). Notes (captured_of n old e new) a.capture t) is (step_seen (leaves old e) number old e new a.capture s t refl (sym step.can) before same after);
}

-- and one that can't be made
pub unseen_refused : (a : Watched) (old : WorldState) (e : Event) (new : WorldState) (s : Recording) → IsStep old e new false → (leaves old e ≡ false → s ≡ a.capture) → record a { capture = s } ≡ a
unseen_refused a old e new s step same = ap (λ (r : Recording). record a { capture = r }) (same (cannot_leave old e (sym step.can)))

-- an event more, before those ahead
pub one_more : (a : Watched) (w : WorldState) (es : List Event) (i : ℕ) (x : WorldState) (c : Watched) (made : Bool) (v : WorldState) (b : Watched) → i < length es
    → IsStep w (get_or es i StartNext) x made → (made ≡ true → CapturesEvent a w (get_or es i StartNext) x c) → (made ≡ false → c ≡ a) → CapturesRun c x (drop (i + 1) es) v b → CapturesRun a w (drop i es) v b
one_more a w es i x c made v b below step observed unseen ahead =
    subst (λ (fs : List Event). CapturesRun a w fs v b) (sym (at_drop_more (λ (fs : List Event). fs) es i StartNext below)) (x, c, made, step, observed, unseen, ahead)

-- none is ahead
pub none_more : (a : Watched) (w : WorldState) (es : List Event) (i : ℕ) → length es ≤ i → CapturesRun a w (drop i es) w a
none_more a w [] zero all = (refl, refl)
none_more a w [] (suc i) all = (refl, refl)
none_more a w (e ∷ es) zero all = absurd (omega arith)
none_more a w (e ∷ es) (suc i) all = none_more a w es i (omega arith)
