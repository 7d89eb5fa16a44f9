-- When no frame is dropped.
use Rattle.std.proofs.Common.{◌≡◌, ℕ, zero, suc, ◌<◌, ◌≤◌, ◌==◌, ◌&&◌, List, [], ◌∷◌, get_or, not, Bool, true, false, Option, Some, None, refl, arith}
use Rattle.std.specs.List.{list_all}
use Rattle.std.proofs.lemmas.Bool.Decides.{nat_tests}
use Rattle.ec_live.specs.Drops.{DropState, is_dropped, left_of}

zero_if : (n : ℕ) → (n == 0) ≡ true → n ≡ 0
zero_if n is = grind (arith, nat_tests)

is_zero : (n : ℕ) → n ≤ 0 → (n == 0) ≡ true
is_zero n h = grind (arith, nat_tests)

no_zero : (n : ℕ) → 0 < n → (n == 0) ≡ false
no_zero n h = grind (arith, nat_tests)

pub some_pending : (any : ℕ) (all : Bool) → 0 < any → true ≡ not ((any == 0) && all)
some_pending any all h = let is : (any == 0) ≡ false = no_zero any h in rw is refl

pub none_pending : (any : ℕ) (all : Bool) → any ≤ 0 → not all ≡ not ((any == 0) && all)
none_pending any all h = let is : (any == 0) ≡ true = is_zero any h in rw is refl

-- ---- nothing pending

both : (n : ℕ) (b : Bool) → ((n == 0) && b) ≡ true → (n ≡ 0) × (b ≡ true)
both n b h = by (n == 0) refl h
  where
    by : (t : Bool) → (n == 0) ≡ t → (t && b) ≡ true → (n ≡ 0) × (b ≡ true)
    by true is g = (zero_if n is, g)
    by false is g = let bad : false ≡ true = g in cc

none_left : (parts : List ℕ) (k : ℕ) → list_all (λ n. n == 0) parts ≡ true → get_or parts k 0 ≡ 0
none_left [] k h = refl
none_left (n ∷ ns) zero h = (both n (list_all (λ m. m == 0) ns) h).0
none_left (n ∷ ns) (suc k) h = none_left ns k (both n (list_all (λ m. m == 0) ns) h).1

left_none : (parts : List ℕ) (part : Option ℕ) → list_all (λ n. n == 0) parts ≡ true → left_of parts part ≡ 0
left_none parts None h = refl
left_none parts (Some k) h = none_left parts k h

-- so no frame is dropped
pub nothing_dropped : (d : DropState) (part : Option ℕ) → not ((d.any == 0) && list_all (λ n. n == 0) d.parts) ≡ false → is_dropped d part ≡ false
nothing_dropped d part h = by (d.any == 0) refl h
  where
    true_of : (b : Bool) → not b ≡ false → b ≡ true
    true_of true e = refl
    true_of false e = let bad : true ≡ false = e in cc

    by : (t : Bool) → (d.any == 0) ≡ t → not (t && list_all (λ n. n == 0) d.parts) ≡ false → is_dropped d part ≡ false
    by true is g =
        let none : d.any ≡ 0 = zero_if d.any is in
        let part_none : left_of d.parts part ≡ 0 = left_none d.parts part (true_of (list_all (λ n. n == 0) d.parts) g) in
        rw (none, part_none) refl
    by false is g = let bad : true ≡ false = g in cc
