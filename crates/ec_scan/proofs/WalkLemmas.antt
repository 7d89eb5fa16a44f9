-- A walk over the words of categories, up to the end mark.
use Rattle.std.proofs.Common.{ℕ, zero, suc, ◌+◌, ◌<◌, ◌≤◌, ◌≡◌, ◌≢◌, ◌==◌, List, [], ◌∷◌, ◌++◌, length, get_or, true, refl, sym, ap, subst, ◌⊎◌, inl, inr, arith}
use Rattle.std.proofs.lemmas.Bool.{eq-eqb, or_left, or_right}
use Rattle.std.proofs.lemmas.List.{append-nil, append_assoc}
use Rattle.ec_scan.specs.declared.shown.Shown.{Shown}
use Rattle.ec_scan.specs.Lines.{LineState}
use Rattle.ec_scan.specs.Showing.{AreWhole, HasWholeSii, Leads, is_ended}

-- it stays, and goes on
pub stays : (words : List ℕ) (place : ℕ) → Leads words place place
stays words place rest h = h

pub goes_on : (words : List ℕ) (from on to : ℕ) → Leads words from on → Leads words on to → Leads words from to
goes_on words from on to h k rest l = h rest (k rest l)

-- more words come
with_more : (words more : List ℕ) (from to : ℕ) → Leads words from to → Leads (words ++ more) from to
with_more words more from to h rest l =
    let e = append_assoc words more rest in
    subst (λ (xs : List ℕ). is_ended from xs ≡ true) (sym e) (h (more ++ rest) (subst (λ (xs : List ℕ). is_ended to xs ≡ true) e l))

pub pushed : (words grown : List ℕ) (x from to : ℕ) → grown ≡ words ++ x ∷ [] → Leads words from to → Leads grown from to
pushed words grown x from to e h = subst (λ (xs : List ℕ). Leads xs from to) (sym e) (with_more words (x ∷ []) from to h)

-- it passes over a category that isn't the end mark
passed : (words rest : List ℕ) (place to : ℕ) → place + 2 ≤ length words → get_or words place 0 ≢ 0xFFFF → to ≡ place + 2 + get_or words (suc place) 0
    → is_ended to (words ++ rest) ≡ true → is_ended place (words ++ rest) ≡ true
passed [] rest place to few other e h = absurd (omega (arith, few))
passed (x ∷ []) rest place to few other e h = absurd (omega (arith, few))
passed (number ∷ count ∷ words) rest zero to few other e h =
    let at : to ≡ zero + 2 + count = e in
    let f : to ≡ suc (suc count) = omega (arith, at) in
    let on : is_ended (suc (suc count)) (number ∷ count ∷ (words ++ rest)) ≡ true = subst (λ (t : ℕ). is_ended t (number ∷ count ∷ (words ++ rest)) ≡ true) f h in
    or_right (number == 0xFFFF) (is_ended count (words ++ rest)) on
passed (x ∷ y ∷ words) rest (suc place) to few other e h =
    let at : to ≡ suc place + 2 + get_or (y ∷ words) (suc place) 0 = e in
    let f : to ≡ suc (place + 2 + get_or (y ∷ words) (suc place) 0) = omega (arith, at) in
    let on : is_ended (suc (place + 2 + get_or (y ∷ words) (suc place) 0)) (x ∷ y ∷ (words ++ rest)) ≡ true =
    subst (λ (t : ℕ). is_ended t (x ∷ y ∷ (words ++ rest)) ≡ true) f h in
    passed (y ∷ words) rest place (place + 2 + get_or (y ∷ words) (suc place) 0) (omega (arith, few)) other refl on

pub passes : (words : List ℕ) (place : ℕ) → place + 2 ≤ length words → get_or words place 0 ≢ 0xFFFF
    → Leads words place (place + 2 + get_or words (place + 1) 0)
passes words place few other rest h =
    let next : place + 1 ≡ suc place = omega arith in
    passed words rest place (place + 2 + get_or words (place + 1) 0) few other (ap (λ (k : ℕ). place + 2 + get_or words k 0) next) h

-- it is where the end mark stands
pub at_mark : (words : List ℕ) (place : ℕ) → place < length words → get_or words place 0 ≡ 0xFFFF → is_ended place words ≡ true
at_mark [] place few e = absurd (omega (arith, few))
at_mark (number ∷ []) zero few e = eq-eqb number 0xFFFF e
at_mark (number ∷ count ∷ words) zero few e = or_left (number == 0xFFFF) (is_ended count words) (eq-eqb number 0xFFFF e)
at_mark (x ∷ words) (suc place) few e = at_mark words place (omega (arith, few)) e

pub reached : (words : List ℕ) (place : ℕ) → Leads words 0 place → is_ended place words ≡ true → is_ended 0 words ≡ true
reached words place h e =
    subst (λ (xs : List ℕ). is_ended 0 xs ≡ true) (append-nil words) (h [] (subst (λ (xs : List ℕ). is_ended place xs ≡ true) (sym (append-nil words)) e))

-- ---- slaves

pub whole_words : (slave : ℕ) (words : List ℕ) (l : LineState) → AreWhole slave words l → (is_ended 0 words ≡ true) ⊎ (words ≡ [])
whole_words slave words l h = elim h [
  | inl e ↦ inl e
  | inr n ↦ inr n.0
]

pub same_words : (s t : Shown) → t.categories ≡ s.categories → HasWholeSii s → HasWholeSii t
same_words s t same h = subst (λ (words : List ℕ). (is_ended 0 words ≡ true) ⊎ (words ≡ [])) (sym same) h
