-- Numbers of a list overwritten one by one, as a loop does it.
use Rattle.std.proofs.Common.{rules, ℕ, zero, suc, ◌+◌, ◌-◌, ◌<◌, ◌≤◌, ◌≡◌, ◌≢◌, ◌⊎◌, List, [], ◌∷◌, length, take, drop, get_or, slice_set, Option, Some, None, unwrap_or, refl, sym, ◌∙◌, ap, inl, inr, arith, if◌then◌else◌, length-set, get_or-set_same, get_or-set_other}
use Rattle.std.proofs.lemmas.Bool.{cases_eq, cases_lt}
use Rattle.std.proofs.lemmas.Grind.{same_number_lists}
use Rattle.std.proofs.lemmas.List.{places}
use borrow.Rule.Slice.PartMut.{put_mid}
use Rattle.ec_bits.specs.Bits.{within}
use Rattle.ec_bits.proofs.AnyLaws.{if_true, if_false, within_true, within_below, within_above}
use Rattle.ec_slave.specs.Physical.{updated_from}
use Rattle.ec_slave.specs.Keeping.{length-updated}

-- one number of a list, overwritten or not
abbrev pub set_updated : List ℕ → ℕ → Option ℕ → List ℕ
set_updated xs i None = xs
set_updated xs i (Some x) = slice_set xs i x

-- the n numbers from place `from` on, overwritten one by one
unfoldable pub updated_along : ℕ → ℕ → List ℕ → (ℕ → Option ℕ) → List ℕ
updated_along zero from xs f = xs
updated_along (suc n) from xs f = set_updated (updated_along n from xs f) (from + n) (f (from + n))

pub get-updated : (k : ℕ) (xs : List ℕ) (f : ℕ → Option ℕ) (i : ℕ) → i < length xs → get_or (updated_from k xs f) i 0 ≡ unwrap_or (f (k + i)) (get_or xs i 0)
get-updated k [] f i h = absurd (omega arith)
get-updated k (x ∷ xs) f zero h = let e : k ≡ k + 0 = omega arith in ap (λ j. unwrap_or (f j) x) e
get-updated k (x ∷ xs) f (suc i) h =
    let e : (k + 1) + i ≡ k + suc i = omega arith in
    get-updated (k + 1) xs f i (omega arith) ∙ ap (λ j. unwrap_or (f j) (get_or xs i 0)) e

pub get-updated0 : (xs : List ℕ) (f : ℕ → Option ℕ) (i : ℕ) → i < length xs → get_or (updated_from 0 xs f) i 0 ≡ unwrap_or (f i) (get_or xs i 0)
get-updated0 xs f i h =
    let e : 0 + i ≡ i = omega arith in
    get-updated 0 xs f i h ∙ ap (λ j. unwrap_or (f j) (get_or xs i 0)) e

length-set_updated : (xs : List ℕ) (i : ℕ) (o : Option ℕ) → length (set_updated xs i o) ≡ length xs
length-set_updated xs i None = refl
length-set_updated xs i (Some x) = length-set xs i x

pub length-updated_along : (n from : ℕ) (xs : List ℕ) (f : ℕ → Option ℕ) → length (updated_along n from xs f) ≡ length xs
unfolding updated_along
length-updated_along zero from xs f = refl
length-updated_along (suc n) from xs f = length-set_updated _ (from + n) (f (from + n)) ∙ length-updated_along n from xs f

get-set_updated_same : (xs : List ℕ) (i : ℕ) (o : Option ℕ) → i < length xs → get_or (set_updated xs i o) i 0 ≡ unwrap_or o (get_or xs i 0)
get-set_updated_same xs i None h = refl
get-set_updated_same xs i (Some x) h = get_or-set_same xs i x 0 h

get-set_updated_other : (xs : List ℕ) (i j : ℕ) (o : Option ℕ) → j ≢ i → get_or (set_updated xs i o) j 0 ≡ get_or xs j 0
get-set_updated_other xs i j None h = refl
get-set_updated_other xs i j (Some x) h = get_or-set_other xs i j x 0 h

pub get-updated_outside : (n from : ℕ) (xs : List ℕ) (f : ℕ → Option ℕ) (i : ℕ) → (i < from) ⊎ (from + n ≤ i) → get_or (updated_along n from xs f) i 0 ≡ get_or xs i 0
unfolding updated_along
get-updated_outside zero from xs f i h = refl
get-updated_outside (suc n) from xs f i h =
    let ne : i ≢ from + n = elim h [ inl a ↦ omega arith | inr b ↦ omega arith ] in
    let h2 : (i < from) ⊎ (from + n ≤ i) = elim h [ inl a ↦ inl a | inr b ↦ inr (omega arith) ] in
    get-set_updated_other _ (from + n) i (f (from + n)) ne ∙ get-updated_outside n from xs f i h2

pub get-updated_inside : (n from : ℕ) (xs : List ℕ) (f : ℕ → Option ℕ) (i : ℕ) → from ≤ i → i < from + n → i < length xs → get_or (updated_along n from xs f) i 0 ≡ unwrap_or (f i) (get_or xs i 0)
unfolding updated_along
get-updated_inside zero from xs f i a b l = absurd (omega arith)
get-updated_inside (suc n) from xs f i a b l =
    let e = length-updated_along n from xs f in
    elim (cases_eq i (from + n)) [
      | inl q ↦ rw q (get-set_updated_same (updated_along n from xs f) (from + n) (f (from + n)) (omega (arith, e, q))
          ∙ ap (unwrap_or (f (from + n))) (get-updated_outside n from xs f (from + n) (inr (omega arith))))
      | inr ne ↦ get-set_updated_other (updated_along n from xs f) (from + n) i (f (from + n)) ne ∙ get-updated_inside n from xs f i a (omega arith) l
    ]

-- THE BRIDGE: where f overwrites nothing outside a window, the pointwise form is the window's
pub updated-along : (n from : ℕ) (xs : List ℕ) (f : ℕ → Option ℕ) → ((i : ℕ) → (i < from) ⊎ (from + n ≤ i) → f i ≡ None) → updated_along n from xs f ≡ updated_from 0 xs f
updated-along n from xs f none =
    let e = length-updated_along n from xs f in
    let outside : (i : ℕ) → i < length xs → (i < from) ⊎ (from + n ≤ i) → get_or (updated_along n from xs f) i 0 ≡ get_or (updated_from 0 xs f) i 0 =
    λ i l h. get-updated_outside n from xs f i h ∙ (ap (λ o. unwrap_or o (get_or xs i 0)) (sym (none i h)) ∙ sym (get-updated0 xs f i l)) in
    same_number_lists _ _ (e ∙ sym (length-updated 0 xs f)) (λ i l.
    let l2 : i < length xs = omega (arith, e) in
    elim (cases_lt i from) [
      | inl a ↦ outside i l2 (inl a)
      | inr a ↦ elim (cases_lt i (from + n)) [
        | inl b ↦ get-updated_inside n from xs f i (omega arith) b l2 ∙ sym (get-updated0 xs f i l2)
        | inr b ↦ outside i l2 (inr (omega arith))
      ]
    ])

pub told-none : (from : ℕ) (xs : List ℕ) (f : ℕ → Option ℕ) → xs ≡ updated_along 0 from xs f
unfolding updated_along
told-none from xs f = refl

told-suc : (n from : ℕ) (xs : List ℕ) (f : ℕ → Option ℕ) → set_updated (updated_along n from xs f) (from + n) (f (from + n)) ≡ updated_along (suc n) from xs f
unfolding updated_along
told-suc n from xs f = refl

-- the step of a loop: number from + n is overwritten next
pub told-step : (n from : ℕ) (xs : List ℕ) (f : ℕ → Option ℕ) (before after : List ℕ) (o : Option ℕ)
    → before ≡ updated_along n from xs f → f (from + n) ≡ o → after ≡ set_updated before (from + n) o → after ≡ updated_along (n + 1) from xs f
told-step n from xs f before after o a b c =
    let e : suc n ≡ n + 1 = omega arith in
    c ∙ (ap (λ p. set_updated before (from + n) p) (sym b) ∙ (ap (λ ys. set_updated ys (from + n) (f (from + n))) a ∙ (told-suc n from xs f ∙ ap (λ m. updated_along m from xs f) e)))

-- where each number is overwritten in turn, the pointwise form is reached
pub updated-whole : (xs : List ℕ) (f : ℕ → Option ℕ) → updated_along (length xs) 0 xs f ≡ updated_from 0 xs f
updated-whole xs f =
    let e = length-updated_along (length xs) 0 xs f in
    same_number_lists _ _ (e ∙ sym (length-updated 0 xs f)) (λ i l.
    let l2 : i < length xs = omega (arith, e) in
    get-updated_inside (length xs) 0 xs f i (omega arith) (omega arith) l2 ∙ sym (get-updated0 xs f i l2))

-- the step of a loop from 0
pub told-step0 : (n : ℕ) (xs : List ℕ) (f : ℕ → Option ℕ) (before after : List ℕ) (o : Option ℕ)
    → before ≡ updated_along n 0 xs f → f n ≡ o → after ≡ set_updated before n o → after ≡ updated_along (n + 1) 0 xs f
told-step0 n xs f before after o a b c =
    let e : 0 + n ≡ n = omega arith in
    told-step n 0 xs f before after o a (ap f e ∙ b) (c ∙ ap (λ m. set_updated before m o) (sym e))

-- ---- parts of a list that are overwritten at once

pub told-alike : (n from : ℕ) (xs : List ℕ) (f g : ℕ → Option ℕ) → ((i : ℕ) → from ≤ i → i < from + n → f i ≡ g i) → updated_along n from xs f ≡ updated_along n from xs g
unfolding updated_along
told-alike zero from xs f g h = refl
told-alike (suc n) from xs f g h =
    ap (λ ys. set_updated ys (from + n) (f (from + n))) (told-alike n from xs f g (λ i a b. h i a (omega arith)))
    ∙ ap (λ o. set_updated (updated_along n from xs g) (from + n) o) (h (from + n) (omega arith) (omega arith))

-- a part overwritten number by number is overwritten at once
pub told-part : (m at : ℕ) (xs : List ℕ) (f : ℕ → Option ℕ) → updated_along m at xs f ≡ updated_from 0 xs (λ i. if within at m i then f i else None)
told-part m at xs f =
    let g = λ (i : ℕ). if within at m i then f i else None in
    told-alike m at xs f g (λ i a b. sym (if_true (within at m i) (f i) None (within_true at m i a b)))
    ∙ updated-along m at xs g (λ i h. if_false (within at m i) (f i) None (elim h [ inl x ↦ within_below at m i x | inr y ↦ within_above at m i y ]))

told-behind : (m n : ℕ) (xs : List ℕ) (f : ℕ → Option ℕ) → updated_along m n (updated_along n 0 xs f) f ≡ updated_along (n + m) 0 xs f
unfolding updated_along
told-behind zero n xs f = let e : n ≡ n + 0 = omega arith in ap (λ k. updated_along k 0 xs f) e
told-behind (suc m) n xs f =
    let e : suc (n + m) ≡ n + suc m = omega arith in
    let z : n + m ≡ 0 + (n + m) = omega arith in
    ap (λ ys. set_updated ys (n + m) (f (n + m))) (told-behind m n xs f)
    ∙ (ap (λ i. set_updated (updated_along (n + m) 0 xs f) i (f i)) z ∙ (told-suc (n + m) 0 xs f ∙ ap (λ k. updated_along k 0 xs f) e))

-- the step of a loop that overwrites a part at once
pub told-next : (n m : ℕ) (xs : List ℕ) (f g : ℕ → Option ℕ) (before after : List ℕ) → before ≡ updated_along n 0 xs f
    → ((i : ℕ) → n ≤ i → i < n + m → g i ≡ f i) → after ≡ updated_from 0 before (λ i. if within n m i then g i else None) → after ≡ updated_along (n + m) 0 xs f
told-next n m xs f g before after a h e =
    e ∙ (sym (told-part m n before g) ∙ (told-alike m n before g f h ∙ (ap (λ ys. updated_along m n ys f) a ∙ told-behind m n xs f)))

-- and of one that leaves a part of which nothing is overwritten
pub told-left : (m n : ℕ) (xs : List ℕ) (f : ℕ → Option ℕ) → ((i : ℕ) → n ≤ i → i < n + m → f i ≡ None) → updated_along n 0 xs f ≡ updated_along (n + m) 0 xs f
unfolding updated_along
told-left zero n xs f h = let e : n ≡ n + 0 = omega arith in ap (λ k. updated_along k 0 xs f) e
told-left (suc m) n xs f h =
    let e : suc (n + m) ≡ n + suc m = omega arith in
    let z : 0 + (n + m) ≡ n + m = omega arith in
    told-left m n xs f (λ i a b. h i a (omega arith))
    ∙ (ap (λ o. set_updated (updated_along (n + m) 0 xs f) (0 + (n + m)) o) (sym (ap f z ∙ h (n + m) (omega arith) (omega arith)))
    ∙ ap (λ k. updated_along k 0 xs f) e)

-- ---- parts of a list, overwritten from a place on

told-behind_at : (m n from : ℕ) (xs : List ℕ) (f : ℕ → Option ℕ) → updated_along m (from + n) (updated_along n from xs f) f ≡ updated_along (n + m) from xs f
unfolding updated_along
told-behind_at zero n from xs f = let e : n ≡ n + 0 = omega arith in ap (λ k. updated_along k from xs f) e
told-behind_at (suc m) n from xs f =
    let e : suc (n + m) ≡ n + suc m = omega arith in
    let z : (from + n) + m ≡ from + (n + m) = omega arith in
    ap (λ ys. set_updated ys (from + n + m) (f (from + n + m))) (told-behind_at m n from xs f)
    ∙ (ap (λ i. set_updated (updated_along (n + m) from xs f) i (f i)) z ∙ (told-suc (n + m) from xs f ∙ ap (λ k. updated_along k from xs f) e))

-- the step of a loop from a place on that overwrites a part at once
pub told-next_at : (n m from : ℕ) (xs : List ℕ) (f g : ℕ → Option ℕ) (before after : List ℕ) → before ≡ updated_along n from xs f
    → ((i : ℕ) → from + n ≤ i → i < from + n + m → g i ≡ f i) → after ≡ updated_from 0 before (λ i. if within (from + n) m i then g i else None)
    → after ≡ updated_along (n + m) from xs f
told-next_at n m from xs f g before after a h e =
    e ∙ (sym (told-part m (from + n) before g) ∙ (told-alike m (from + n) before g f h ∙ (ap (λ ys. updated_along m (from + n) ys f) a ∙ told-behind_at m n from xs f)))

-- what is overwritten outside a list, or nowhere, leaves it
pub updated-none : (xs : List ℕ) (f : ℕ → Option ℕ) → ((i : ℕ) → i < length xs → f i ≡ None) → xs ≡ updated_from 0 xs f
updated-none xs f none = same_number_lists _ _ (sym (length-updated 0 xs f)) (λ i l.
    sym (get-updated0 xs f i l ∙ ap (λ o. unwrap_or o (get_or xs i 0)) (none i l)))

-- bytes written over bytes
pub slice-updated : (xs ys : List ℕ) (a n : ℕ) (f : ℕ → Option ℕ) → a + n ≤ length xs → length ys ≡ n
    → ((i : ℕ) → a ≤ i → i < a + n → f i ≡ Some (get_or ys (i - a) 0)) → ((i : ℕ) → (i < a) ⊎ (a + n ≤ i) → f i ≡ None)
    → put_mid a n xs ys ≡ updated_from 0 xs f
slice-updated xs ys a n f h e told none =
    let long : length (put_mid a n xs ys) ≡ length xs = search (rules, places) in
    same_number_lists _ _ (long ∙ sym (length-updated 0 xs f)) (λ i l.
    let l2 : i < length xs = omega (arith, long) in
    let at = get-updated0 xs f i l2 in
    elim (cases_lt i a) [
      | inl x ↦
          let own : get_or (put_mid a n xs ys) i 0 ≡ get_or xs i 0 = search (rules, places) in
          own ∙ (ap (λ o. unwrap_or o (get_or xs i 0)) (sym (none i (inl x))) ∙ sym at)
      | inr x ↦ elim (cases_lt i (a + n)) [
        | inl y ↦
            let own : get_or (put_mid a n xs ys) i 0 ≡ get_or ys (i - a) 0 = search (rules, places) in
            own ∙ (ap (λ o. unwrap_or o (get_or xs i 0)) (sym (told i x y)) ∙ sym at)
        | inr y ↦
            let own : get_or (put_mid a n xs ys) i 0 ≡ get_or xs i 0 = search (rules, places) in
            own ∙ (ap (λ o. unwrap_or o (get_or xs i 0)) (sym (none i (inr y))) ∙ sym at)
      ]
    ])

pub updated-alike : (xs : List ℕ) (f g : ℕ → Option ℕ) → ((i : ℕ) → f i ≡ g i) → updated_from 0 xs f ≡ updated_from 0 xs g
updated-alike xs f g h = same_number_lists _ _ (length-updated 0 xs f ∙ sym (length-updated 0 xs g)) (λ i l.
    let e = length-updated 0 xs f in
    let l2 : i < length xs = omega (arith, e) in
    get-updated0 xs f i l2 ∙ (ap (λ o. unwrap_or o (get_or xs i 0)) (h i) ∙ sym (get-updated0 xs g i l2)))

-- a part of a list: its length and its elements
pub length-part : (xs : List ℕ) (n m : ℕ) → n + m ≤ length xs → length (take (n + m - n) (drop n xs)) ≡ m
length-part xs n m h = search (rules, places)

pub get-part : (xs : List ℕ) (n m k : ℕ) → n + m ≤ length xs → k < m → get_or (take (n + m - n) (drop n xs)) k 0 ≡ get_or xs (n + k) 0
get-part xs n m k h l = search (rules, places)
