-- Laws of tests.
use Rattle.std.proofs.Common.{Option, Some, None, is_some, is_none, not, ◌==◌, ℕ, zero, suc, ◌+◌, ◌<◌, ◌≤◌, ◌≡◌, ◌||◌, Bool, true, false, refl, sym, ◌∙◌, ap, arith, if◌then◌else◌}
use Rattle.std.proofs.lemmas.Bool.{ne_eqb}
use Rattle.ec_bits.specs.Bits.{any_below}
use Rattle.ec_bits.proofs.AnyLaws.{if_true, if_false, any_below_from}

pub any-none : (p : ℕ → Bool) → false ≡ any_below 0 p
unfolding any_below
any-none p = refl

any-suc : (n : ℕ) (p : ℕ → Bool) → any_below (suc n) p ≡ (if p n then true else any_below n p)
unfolding any_below
any-suc n p = refl

pub any-at : (n : ℕ) (p : ℕ → Bool) → any_below (n + 1) p ≡ (if p n then true else any_below n p)
any-at n p = let e : n + 1 ≡ suc n = omega arith in ap (λ m. any_below m p) e ∙ any-suc n p

-- the step of a loop that asks for one
pub any-hit : (n : ℕ) (p : ℕ → Bool) → p n ≡ true → true ≡ any_below (n + 1) p
any-hit n p h = sym (any-at n p ∙ if_true _ _ _ h)

pub any-miss : (n : ℕ) (p : ℕ → Bool) (b : Bool) → b ≡ any_below n p → p n ≡ false → b ≡ any_below (n + 1) p
any-miss n p b e h = e ∙ sym (any-at n p ∙ if_false _ _ _ h)

-- the step of a loop that joins one more
pub any-or : (n : ℕ) (p : ℕ → Bool) (b r : Bool) → b ≡ any_below n p → r ≡ p n → (b || r) ≡ any_below (n + 1) p
any-or n p b true e h = any-true b ∙ any-hit n p (sym h)
  where
    any-true : (b : Bool) → (b || true) ≡ true
    any-true true = refl
    any-true false = refl
any-or n p b false e h = any-false b ∙ any-miss n p b e (sym h)
  where
    any-false : (b : Bool) → (b || false) ≡ b
    any-false true = refl
    any-false false = refl

pub none-from : {X : Type 0} (o : Option X) (r : Bool) → is_some o ≡ not r → r ≡ is_none o
none-from None true e = refl
none-from None false e = e
none-from (Some x) true e = e
none-from (Some x) false e = refl

-- the step of a loop that asks for a part of which all are alike
pub any-part : (m n : ℕ) (p : ℕ → Bool) (b : Bool) → b ≡ any_below n p → ((i : ℕ) → n ≤ i → i < n + m → p i ≡ false) → b ≡ any_below (n + m) p
any-part zero n p b e h = let z : n ≡ n + 0 = omega arith in e ∙ ap (λ k. any_below k p) z
any-part (suc m) n p b e h =
    let z : n + m + 1 ≡ n + suc m = omega arith in
    any-miss (n + m) p b (any-part m n p b e (λ i a l. h i a (omega arith))) (h (n + m) (omega arith) (omega arith)) ∙ ap (λ k. any_below k p) z

-- the step of a loop that joins what all of a part are
pub any-joined : (m n : ℕ) (p : ℕ → Bool) (b r : Bool) → b ≡ any_below n p → r ≡ p n → 0 < m → ((i : ℕ) → n ≤ i → i < n + m → p i ≡ p n)
    → (b || r) ≡ any_below (n + m) p
any-joined m n p b true e h some alike = any-true b ∙ sym (any_below_from (n + m) p n (omega arith) (sym h))
  where
    any-true : (b : Bool) → (b || true) ≡ true
    any-true true = refl
    any-true false = refl
any-joined m n p b false e h some alike = any-false b ∙ any-part m n p b e (λ i a l. alike i a l ∙ sym h)
  where
    any-false : (b : Bool) → (b || false) ≡ b
    any-false true = refl
    any-false false = refl

-- what all of n pass one passes, unless n is 0
pub any-all : (n : ℕ) (p : ℕ → Bool) → ((i : ℕ) → i < n → p i ≡ true) → not (n == 0) ≡ any_below n p
any-all zero p h = any-none p
any-all (suc n) p h =
    ap not (ne_eqb (suc n) 0 (λ e. absurd (omega arith))) ∙ sym (any_below_from (suc n) p 0 (omega arith) (h 0 (omega arith)))
