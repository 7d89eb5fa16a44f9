-- The bytes of words, one by one.
use Rattle.std.proofs.Common.{ℕ, zero, suc, ◌*◌, ◌/◌, ◌%◌, ◌≤◌, ◌≡◌, ◌≢◌, List, [], ◌∷◌, length, get_or, refl, ap, ◌∙◌, arith, inl, inr}
use Rattle.std.proofs.lemmas.Bool.{cases_eq}
use Rattle.std.proofs.lemmas.List.{get_or_past}
use Rattle.ec_sii.specs.Reading.{bytes_of}

abbrev twice : ℕ → ℕ
twice zero = zero
twice (suc n) = suc (suc (twice n))

twice-is : (n : ℕ) → twice n ≡ 2 * n
twice-is zero = refl
twice-is (suc n) = let e = twice-is n in omega (arith, e)

low_at : (ws : List ℕ) (j : ℕ) → get_or (bytes_of ws) (twice j) 0 ≡ get_or ws j 0 % 256
low_at [] j = refl
low_at (w ∷ ws) zero = refl
low_at (w ∷ ws) (suc j) = low_at ws j

high_at : (ws : List ℕ) (j : ℕ) → get_or (bytes_of ws) (suc (twice j)) 0 ≡ get_or ws j 0 / 256
high_at [] j = refl
high_at (w ∷ ws) zero = refl
high_at (w ∷ ws) (suc j) = high_at ws j

pub low_byte : (ws : List ℕ) (k : ℕ) → k % 2 ≡ 0 → get_or (bytes_of ws) k 0 ≡ get_or ws (k / 2) 0 % 256
low_byte ws k h =
    let d = twice-is (k / 2) in
    let e : k ≡ twice (k / 2) = omega (arith, d, h) in
    ap (λ (n : ℕ). get_or (bytes_of ws) n 0) e ∙ low_at ws (k / 2)

pub high_byte : (ws : List ℕ) (k : ℕ) → k % 2 ≢ 0 → get_or (bytes_of ws) k 0 ≡ get_or ws (k / 2) 0 / 256
high_byte ws k h =
    let d = twice-is (k / 2) in
    let e : k ≡ suc (twice (k / 2)) = omega (arith, d, h) in
    ap (λ (n : ℕ). get_or (bytes_of ws) n 0) e ∙ high_at ws (k / 2)

pub no_byte : (ws : List ℕ) (k : ℕ) → length ws ≤ k / 2 → get_or (bytes_of ws) k 0 ≡ 0
no_byte ws k l =
    let past : get_or ws (k / 2) 0 ≡ 0 = get_or_past ws (k / 2) 0 l in
    elim (cases_eq (k % 2) 0) [
      | inl e ↦ low_byte ws k e ∙ ap (λ (n : ℕ). n % 256) past
      | inr n ↦ high_byte ws k n ∙ ap (λ (m : ℕ). m / 256) past
    ]
