-- The line between a table and its script.
use Rattle.std.proofs.Common.{◌≡◌, ◌∙◌, ℕ, ◌+◌, ◌-◌, ◌<◌, [], ◌∷◌, length, get_or, drop, Bool, true, false, if◌then◌else◌, Option, Some, None, IfSome, unwrap_or, nat_eq, refl, sym, ap, subst, arith}
use Rattle.std.specs.List.{starts_with}
use Rattle.std.specs.Str.{bytes_eq, IsUtf8, IsCharBoundary}
use Rattle.std.proofs.lemmas.List.{get_or-drop, length-drop}
use Rattle.std.proofs.lemmas.Bool.Decides.{Decides-eqb}
use Rattle.std.proofs.lemmas.Slice.Eq.{bytes_eq-Decides, starts_is}
use Rattle.std.proofs.lemmas.Str.{IsCharBoundary-before_ascii, IsCharBoundary-after_ascii}
use Rattle.ec_script.specs.Words.{Text}
use Rattle.ec_script.specs.Halves.{Begins, divider_in}

two : Begins (37 ∷ 37 ∷ []) 2
two = record { within = omega arith; some = omega arith; first = refl; last = omega arith }

three : (rest : Text) → Begins (37 ∷ 37 ∷ 10 ∷ rest) 3
three rest = record { within = omega arith; some = omega arith; first = refl; last = omega arith }

four : (rest : Text) → Begins (37 ∷ 37 ∷ 13 ∷ 10 ∷ rest) 4
four rest = record { within = omega arith; some = omega arith; first = refl; last = omega arith }

same : (m n : ℕ) → Some m ≡ Some n → m ≡ n
same m n h = ap (λ o. unwrap_or o 0) h

pick : (text : Text) (a b c : Bool) (n : ℕ) → (a ≡ true → text ≡ 37 ∷ 37 ∷ []) → (b ≡ true → text ≡ 37 ∷ 37 ∷ 10 ∷ drop 3 text) → (c ≡ true → text ≡ 37 ∷ 37 ∷ 13 ∷ 10 ∷ drop 4 text)
    → (if a then Some 2 else (if b then Some 3 else (if c then Some 4 else None))) ≡ Some n → Begins text n
pick text true b c n p q r h = subst (Begins text) (same 2 n h) (subst (λ t. Begins t 2) (sym (p refl)) two)
pick text false true c n p q r h = subst (Begins text) (same 3 n h) (subst (λ t. Begins t 3) (sym (q refl)) (three (drop 3 text)))
pick text false false true n p q r h = subst (Begins text) (same 4 n h) (subst (λ t. Begins t 4) (sym (r refl)) (four (drop 4 text)))
pick text false false false n p q r h = let bad : None ≡ Some n = h in cc

begun : (text : Text) (n : ℕ) → divider_in text ≡ Some n → Begins text n
unfolding divider_in
begun text n h =
    pick text (bytes_eq text (37 ∷ 37 ∷ [])) (starts_with nat_eq text (37 ∷ 37 ∷ 10 ∷ [])) (starts_with nat_eq text (37 ∷ 37 ∷ 13 ∷ 10 ∷ [])) n
    (λ e. (bytes_eq-Decides text (37 ∷ 37 ∷ [])).0 e)
    (λ e. (starts_is Decides-eqb text (37 ∷ 37 ∷ 10 ∷ []) _ refl).0 e)
    (λ e. (starts_is Decides-eqb text (37 ∷ 37 ∷ 13 ∷ 10 ∷ []) _ refl).0 e) h

pub begins_if : (text : Text) (r : Option ℕ) → r ≡ divider_in text → IfSome r (Begins text)
begins_if text None h = tt
begins_if text (Some n) h = begun text n (sym h)

-- where the text may be cut
pub cut_before : (text : Text) (place n : ℕ) → place < length text → Begins (drop place text) n → IsCharBoundary text place
cut_before text place n lt h =
    let z : place + 0 ≡ place = omega arith in
    let first : get_or text (place + 0) 0 ≡ 37 = sym (get_or-drop place text 0 0) ∙ h.first in
    let at : get_or text place 0 ≡ 37 = subst (λ k. get_or text k 0 ≡ 37) z first in
    let small : get_or text place 0 < 128 = omega (arith, at) in
    IsCharBoundary-before_ascii text place lt small

pub cut_behind : (text : Text) (place n : ℕ) → IsUtf8 text → place < length text → Begins (drop place text) n → IsCharBoundary text (place + n)
cut_behind text place n u lt h =
    let some = h.some in
    let within = h.within in
    let len = length-drop place text in
    let last : get_or text (place + (n - 1)) 0 < 128 = subst (λ x. x < 128) (get_or-drop place text (n - 1) 0) h.last in
    let e : place + (n - 1) + 1 ≡ place + n = omega (arith, some) in
    let inside : place + (n - 1) < length text = omega (arith, some, within, len, lt) in
    subst (IsCharBoundary text) e (IsCharBoundary-after_ascii text (place + (n - 1)) u inside last)
