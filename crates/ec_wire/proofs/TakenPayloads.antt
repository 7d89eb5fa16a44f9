-- Payloads taken one after the other.
use Rattle.std.proofs.Common.{◌≡◌, ◌<◌, ◌++◌, ℕ, List, [], ◌∷◌, Bool, true, false, Option, Some, None, sym, ◌∙◌, ap, refl, is_some, subst}
use Rattle.std.specs.Str.{bytes_eq}
use Rattle.std.proofs.lemmas.Slice.Eq.{bytes_eq-Decides}
use Rattle.ec_frame.specs.Frame.{Payload}
use Rattle.ec_cycle.specs.Closing.{ReturnedPart}
use Rattle.ec_cycle.specs.Master.{MasterState, OpenCycle, IsAnswer, IsTaken, missing_of, with_returned}
use Rattle.ec_wire.specs.Running.{AreTaken}

pub taken-push : (old mid new : MasterState) (ps : List (List ℕ)) (p : List ℕ) (is_accepted : Bool) → AreTaken old ps mid → 0 < missing_of mid.cycle → IsTaken mid p is_accepted new → AreTaken old (ps ++ p ∷ []) new
taken-push old mid new [] p is_accepted e missing t = subst (λ (m : MasterState). AreTaken m (p ∷ []) new) e (missing, (is_accepted, new, t, refl))
taken-push old mid new (q ∷ ps) p is_accepted h missing t = (h.0, (h.1.0, h.1.1, h.1.2, taken-push h.1.1 mid new ps p is_accepted h.1.3 missing t))

true-unless-false : (b : Bool) → (b ≡ false → ⊥) → b ≡ true
true-unless-false true h = refl
true-unless-false false h = absurd (h refl)

-- what a test says of a master stays where keeping a part leaves it
test-stays : (f : MasterState → Bool) → ((m : MasterState) (c : OpenCycle) (k : ℕ) (q : ReturnedPart) → m.cycle ≡ Some c → f (with_returned m c k q) ≡ f m)
    → (old new : MasterState) (p : List ℕ) (is_accepted : Bool) → IsTaken old p is_accepted new → f old ≡ true → f new ≡ true
test-stays f stays old new p is_accepted t e =
    true-unless-false (f new) (λ off.
    let none : (c : OpenCycle) (k : ℕ) (y : Payload) → IsAnswer old c p k y → ⊥ = λ c k y a.
    let same : f new ≡ true = ap f (t.kept c k y a).1 ∙ stays old c k _ a.is_open ∙ e in cc in
    let same : f new ≡ true = ap f (t.foreign none).1 ∙ e in cc)

pub tests_stay : (f : MasterState → Bool) → ((m : MasterState) (c : OpenCycle) (k : ℕ) (q : ReturnedPart) → m.cycle ≡ Some c → f (with_returned m c k q) ≡ f m)
    → (old new : MasterState) (ps : List (List ℕ)) → AreTaken old ps new → f old ≡ true → f new ≡ true
tests_stay f stays old new [] h e = ap f h ∙ e
tests_stay f stays old new (p ∷ ps) h e = tests_stay f stays h.1.1 new ps h.1.3 (test-stays f stays old h.1.1 p h.1.0 h.1.2 e)

-- taking payloads closes no cycle
pub stays-open : (old new : MasterState) (ps : List (List ℕ)) → AreTaken old ps new → is_some old.cycle ≡ true → is_some new.cycle ≡ true
stays-open old new ps h e = tests_stay (λ m. is_some m.cycle) (λ m c k q o. sym (ap (λ (x : _). is_some x) o)) old new ps h e

-- and changes no input
pub inputs-stay : (old new : MasterState) (ps : List (List ℕ)) → AreTaken old ps new → new.inputs ≡ old.inputs
inputs-stay old new ps h =
    (bytes_eq-Decides new.inputs old.inputs).0 (tests_stay (λ m. bytes_eq m.inputs old.inputs) (λ m c k q o. refl) old new ps h ((bytes_eq-Decides old.inputs old.inputs).1 refl))

-- a cycle is open or it isn't
pub not_none : (o : Option OpenCycle) → is_some o ≡ true → o ≡ None → ⊥
not_none o e n = let off : false ≡ true = sym (ap (λ (x : Option OpenCycle). is_some x) n) ∙ e in cc
