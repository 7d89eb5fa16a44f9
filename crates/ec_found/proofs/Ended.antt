-- What a reader finds in words up to the end mark it finds in more words, too.
use Rattle.std.proofs.Common.{ℕ, zero, suc, ◌≤◌, ◌≡◌, ◌==◌, List, [], ◌∷◌, ◌++◌, length, take, true, false, None, Some, if◌then◌else◌, refl, sym, ap, ◌∙◌, arith, inl, inr}
use Rattle.std.proofs.lemmas.Bool.{cases_Bool}
use Rattle.ec_sii.specs.Reading.{category_found, found_behind}
use Rattle.ec_found.specs.Laws.{is_ended}
use Rattle.ec_found.proofs.Steps.{at_category, passed_word}

no_end : {P : Type 0} → false ≡ true → P
no_end h = cc

-- a walk that ends passes over no more words than there are
long_enough : (p : ℕ) (xs : List ℕ) → is_ended p xs ≡ true → p ≤ length xs
long_enough zero xs h = omega arith
long_enough (suc p) [] h = no_end h
long_enough (suc p) (x ∷ xs) h = let l = long_enough p xs h in omega (arith, l)

take_front : (n : ℕ) (xs ys : List ℕ) → n ≤ length xs → take n (xs ++ ys) ≡ take n xs
take_front zero xs ys l = refl
take_front (suc n) [] ys l = absurd (omega (arith, l))
take_front (suc n) (x ∷ xs) ys l = ap (λ (zs : List ℕ). x ∷ zs) (take_front n xs ys (omega (arith, l)))

-- where a category begins
same_here : (wanted number count : ℕ) (ws ys : List ℕ) → is_ended 0 (number ∷ count ∷ ws) ≡ true
    → (is_ended count ws ≡ true → found_behind count wanted (ws ++ ys) ≡ found_behind count wanted ws)
    → (if number == 0xFFFF then None else (if number == wanted then Some (take count (ws ++ ys)) else found_behind count wanted (ws ++ ys)))
    ≡ (if number == 0xFFFF then None else (if number == wanted then Some (take count ws) else found_behind count wanted ws))
same_here wanted number count ws ys h alike = elim (cases_Bool (number == 0xFFFF)) [
  | inl e ↦ rw e refl
  | inr g ↦
      let on : is_ended count ws ≡ true = rw g at h in
      elim (cases_Bool (number == wanted)) [
        | inl e ↦ rw (g, e) (ap (λ (zs : List ℕ). Some zs) (take_front count ws ys (long_enough count ws on)))
        | inr f ↦ rw (g, f) (alike on)
      ]
]

found_alike : (p wanted : ℕ) (xs ys : List ℕ) → is_ended p xs ≡ true → found_behind p wanted (xs ++ ys) ≡ found_behind p wanted xs
found_alike zero wanted [] ys h = no_end h
found_alike zero wanted (x ∷ []) ys h = no_end h
found_alike zero wanted (number ∷ count ∷ ws) ys h =
    at_category wanted number count (ws ++ ys)
    ∙ same_here wanted number count ws ys h (λ on. found_alike count wanted ws ys on)
    ∙ sym (at_category wanted number count ws)
found_alike (suc p) wanted [] ys h = no_end h
found_alike (suc p) wanted (x ∷ xs) ys h = passed_word p wanted x (xs ++ ys) ∙ found_alike p wanted xs ys h ∙ sym (passed_word p wanted x xs)

pub category_alike : (wanted : ℕ) (xs ys : List ℕ) → is_ended 0 xs ≡ true → category_found wanted xs ≡ category_found wanted (xs ++ ys)
category_alike wanted xs ys h = sym (found_alike zero wanted xs ys h)
