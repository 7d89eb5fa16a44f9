-- Slaves that are served one after the other, and what an application may make of its outputs later.
use Rattle.std.proofs.Common.{ℕ, zero, suc, ◌+◌, ◌<◌, ◌≤◌, ◌≡◌, ◌≢◌, inl, inr, List, [], ◌∷◌, ◌++◌, length, slice_get, set, Some, refl, sym, ◌∙◌, ap, subst, arith, append_assoc, append-nil, length-append}
use Rattle.std.proofs.lemmas.Bool.{cases_eq}
use Rattle.std.proofs.lemmas.List.{length-set}
use Rattle.std.proofs.lemmas.Option.{slice_get_within}
use Rattle.ec_slave.specs.State.{SlaveState}
use Rattle.ec_slave.specs.Serving.{served}
use Rattle.ec_wire.specs.Applications.{HasStepped, IsServed, AreServed, outputs_seen}
use Rattle.ec_wire.specs.Wires.{WireState, Carries}
use Rattle.ec_wire.specs.Segments.{IsAnswer, IsTreated, AreTreated, WasCutOff}
use Rattle.ec_wire.proofs.WireCalls.{carries-then, fault-from}

-- what may be made later might have been made before
abbrev pub AreFewer : (List ℕ → List ℕ → Type 0) → (List ℕ → List ℕ → Type 0) → Type 0
AreFewer later may_produce = (o i : List ℕ) → later o i → may_produce o i

stepped-by : (later may_produce : List ℕ → List ℕ → Type 0) (s t : SlaveState) → AreFewer later may_produce → HasStepped later s t → HasStepped may_produce s t
stepped-by later may_produce s t fewer h = record { inputs = h.inputs; size = h.size; made = fewer (outputs_seen s) h.inputs h.made; slave = h.slave }

pub served_by : (later may_produce : List ℕ → List ℕ → Type 0) (s t : SlaveState) → AreFewer later may_produce → IsServed later s t → IsServed may_produce s t
served_by later may_produce s t fewer h = record { idle = h.idle; works = λ e. stepped-by later may_produce (served s) t fewer (h.works e) }

are-served-by : (later may_produce : List ℕ → List ℕ → Type 0) (old new : List SlaveState) → AreFewer later may_produce → AreServed later old new → AreServed may_produce old new
are-served-by later may_produce old new fewer h = record { count = h.count; each = λ i s t a b. served_by later may_produce s t fewer (h.each i s t a b) }

pub answer_by : (later may_produce : List ℕ → List ℕ → Type 0) (old new : List SlaveState) (payload answer : List ℕ) → AreFewer later may_produce → IsAnswer later old payload new answer → IsAnswer may_produce old payload new answer
answer_by later may_produce old new payload answer fewer h = record { is_frame = h.is_frame; passed = h.passed; ring = h.ring; served = are-served-by later may_produce h.passed new fewer h.served }

treated-by : (later may_produce : List ℕ → List ℕ → Type 0) (old new : List SlaveState) (payload : List ℕ) (answers : List (List ℕ)) → AreFewer later may_produce → IsTreated later old payload new answers
    → IsTreated may_produce old payload new answers
treated-by later may_produce old new payload answers fewer (inl h) = inl (h.0, h.1, answer_by later may_produce old new payload h.0 fewer h.2)
treated-by later may_produce old new payload answers fewer (inr h) = inr h

pub all_treated_by : (later may_produce : List ℕ → List ℕ → Type 0) (old new : List SlaveState) (payloads answers : List (List ℕ)) → AreFewer later may_produce → AreTreated later old payloads new answers
    → AreTreated may_produce old payloads new answers
all_treated_by later may_produce old new [] answers fewer h = h
all_treated_by later may_produce old new (p ∷ ps) answers fewer h =
    (h.0, h.1, h.2, treated-by later may_produce old h.0 p h.1 fewer h.3, all_treated_by later may_produce h.0 new ps h.2 fewer h.4, h.5)

-- ---- payloads one after the other

pub one_treated : (may_produce : List ℕ → List ℕ → Type 0) (old new : List SlaveState) (p : List ℕ) (answers : List (List ℕ)) → IsTreated may_produce old p new answers → AreTreated may_produce old (p ∷ []) new answers
one_treated may_produce old new p answers h = (new, answers, [], h, (refl, refl), sym (append-nil answers))

pub treated_then : (may_produce : List ℕ → List ℕ → Type 0) (a b c : List SlaveState) (ps qs xs ys : List (List ℕ)) → AreTreated may_produce a ps b xs → AreTreated may_produce b qs c ys → AreTreated may_produce a (ps ++ qs) c (xs ++ ys)
treated_then may_produce a b c [] qs xs ys h k =
    subst (λ (zs : List (List ℕ)). AreTreated may_produce a qs c zs) (ap (λ (zs : List (List ℕ)). zs ++ ys) (sym h.1)) (subst (λ (r : List SlaveState). AreTreated may_produce r qs c ys) h.0 k)
treated_then may_produce a b c (p ∷ ps) qs xs ys h k =
    (h.0, h.1, h.2 ++ ys, h.3, treated_then may_produce h.0 b c ps qs h.2 ys h.4 k, ap (λ (zs : List (List ℕ)). zs ++ ys) h.5 ∙ append_assoc h.1 h.2 ys)

-- ---- slaves one after the other

-- the slaves below `place` are served, and the others as they were
pub record AreServedBelow (may_produce : List ℕ → List ℕ → Type 0) (old new : List SlaveState) (place : ℕ) : Type 0 where
  pub count : length new ≡ length old
  pub done : (i : ℕ) (s t : SlaveState) → i < place → slice_get old i ≡ Some s → slice_get new i ≡ Some t → IsServed may_produce s t
  pub ahead : (i : ℕ) → place ≤ i → slice_get new i ≡ slice_get old i

pub none_served : (may_produce : List ℕ → List ℕ → Type 0) (old : List SlaveState) → AreServedBelow may_produce old old 0
none_served may_produce old = record { count = refl; done = λ i s t l. absurd (omega (arith, l)); ahead = λ i l. refl }

some-same : {X : Type 0} (a b : X) → Some a ≡ Some b → a ≡ b
some-same a b e = cc

get-set_same : (xs : List SlaveState) (i : ℕ) (y : SlaveState) → i < length xs → slice_get (set xs i y) i ≡ Some y
get-set_same [] i y l = absurd (omega (arith, l))
get-set_same (x ∷ xs) zero y l = refl
get-set_same (x ∷ xs) (suc i) y l = get-set_same xs i y (omega (arith, l))

get-set_other : (xs : List SlaveState) (i j : ℕ) (y : SlaveState) → j ≢ i → slice_get (set xs i y) j ≡ slice_get xs j
get-set_other [] i j y ne = refl
get-set_other (x ∷ xs) zero zero y ne = absurd (ne refl)
get-set_other (x ∷ xs) zero (suc j) y ne = refl
get-set_other (x ∷ xs) (suc i) zero y ne = refl
get-set_other (x ∷ xs) (suc i) (suc j) y ne = get-set_other xs i j y (λ e. ne (ap suc e))

-- one slave more
pub serve_next : (may_produce later : List ℕ → List ℕ → Type 0) (old mid new : List SlaveState) (place : ℕ) (s t : SlaveState) → AreFewer later may_produce → AreServedBelow may_produce old mid place → place < length mid
    → slice_get mid place ≡ Some s → IsServed later s t → new ≡ set mid place t → AreServedBelow may_produce old new (place + 1)
serve_next may_produce later old mid new place s t fewer h l at one is = record {
  count = ap length is ∙ (length-set mid place t ∙ h.count);
  done = λ i a b below x y. elim (cases_eq i place) [
    | inl e ↦
        let was : slice_get old place ≡ Some s = sym (h.ahead place (omega arith)) ∙ at in
        let a_is : a ≡ s = some-same a s (sym x ∙ (ap (λ (k : ℕ). slice_get old k) e ∙ was)) in
        let b_is : b ≡ t = some-same b t (sym y ∙ (ap (λ (k : ℕ). slice_get new k) e ∙ (ap (λ (xs : List SlaveState). slice_get xs place) is ∙ get-set_same mid place t l))) in
        subst (λ (z : SlaveState). IsServed may_produce z b) (sym a_is) (subst (λ (z : SlaveState). IsServed may_produce s z) (sym b_is) (served_by later may_produce s t fewer one))
    | inr n ↦
        let same : slice_get mid i ≡ Some b = sym (get-set_other mid place i t n) ∙ (ap (λ (xs : List SlaveState). slice_get xs i) (sym is) ∙ y) in
        h.done i a b (omega (arith, below, n)) x same
  ];
  ahead = λ i le. ap (λ (xs : List SlaveState). slice_get xs i) is ∙ (get-set_other mid place i t (λ e. omega (arith, le, e)) ∙ h.ahead i (omega (arith, le)));
}

pub all_served : (may_produce : List ℕ → List ℕ → Type 0) (old new : List SlaveState) (place : ℕ) → AreServedBelow may_produce old new place → length old ≤ place → AreServed may_produce old new
all_served may_produce old new place h le = record {
  count = h.count;
  each = λ i s t x y. h.done i s t (let l = slice_get_within old i s x in omega (arith, l, le)) x y;
}

-- ---- payload after payload

-- the next payload
pub treat_next : (may_produce later : List ℕ → List ℕ → Type 0) (a b c : List SlaveState) (u v w : WireState) (ps qs xs ys : List (List ℕ)) → AreFewer later may_produce
    → Carries u v xs ps → AreTreated may_produce a ps b xs → Carries v w ys qs → AreTreated later b qs c ys → Carries u w (xs ++ ys) (ps ++ qs) × AreTreated may_produce a (ps ++ qs) c (xs ++ ys)
treat_next may_produce later a b c u v w ps qs xs ys fewer before treated carried next =
    (carries-then u v w xs ps ys qs before carried, treated_then may_produce a b c ps qs xs ys treated (all_treated_by later may_produce b c qs ys fewer next))

-- a fault at the next payload
pub cut_then : (may_produce later : List ℕ → List ℕ → Type 0) (a b c : List SlaveState) (u v w : WireState) (ps xs : List (List ℕ)) (count frames answered refused : ℕ) → AreFewer later may_produce
    → Carries u v xs ps → AreTreated may_produce a ps b xs → length ps ≡ count → length xs ≡ answered → answered + refused ≡ count → count < frames → v.failed ≡ u.failed → WasCutOff later b c v w 1 0 0
    → WasCutOff may_produce a c u w frames answered refused
cut_then may_produce later a b c u v w ps xs count frames answered refused fewer before treated counted sent sum below same h =
    let few = h.few in
    let long = length-append ps h.got in
    let more = length-append xs h.sent in
    let none = h.answers in
    let rest = h.others in
    record {
      got = ps ++ h.got;
      sent = xs ++ h.sent;
      lost = h.lost;
      carried = carries-then u v w xs ps h.sent h.got before h.carried;
      treated = subst (λ (zs : List (List ℕ)). AreTreated may_produce a (ps ++ h.got) c zs) (sym (append_assoc xs h.sent h.lost))
          (treated_then may_produce a b c ps h.got xs (h.sent ++ h.lost) treated (all_treated_by later may_produce b c h.got (h.sent ++ h.lost) fewer h.treated));
      one_lost = h.one_lost;
      few = omega (arith, long, few, counted, below);
      answers = omega (arith, more, none, sent);
      others = omega (arith, long, rest, counted, sum);
      fault = sym (fault-from u v w same) ∙ h.fault;
    }
