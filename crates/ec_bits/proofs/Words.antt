-- 64 bits at once.
use Rattle.std.proofs.Common.{ℕ, ◌+◌, ◌-◌, ◌*◌, ◌/◌, ◌%◌, ◌^◌, ◌<◌, ◌≤◌, ◌≡◌, sym, ◌∙◌, ap, inl, inr, arith, if◌then◌else◌, nat_lt, max, bit_or, pow_pos}
use Rattle.std.specs.Int.{bit_at}
use Rattle.std.proofs.lemmas.Bool.{cases_lt, lt-ltb, le-ltb}
use Rattle.std.proofs.lemmas.Nat.{shr_split}
use Rattle.std.proofs.lemmas.Nat.Bits.{bit_at_cat_low, bit_at_cat_high, bit_at_above, bit_at_or, bit_at-zero}
use Rattle.ec_bits.proofs.AnyLaws.{if_true, if_false}
use Rattle.ec_bits.proofs.Shifts.{bit_at-shr}

bit_at-low : (x j : ℕ) → j < 64 → bit_at (x % 2 ^ 64) j ≡ bit_at x j
bit_at-low x j h = sym (bit_at_cat_low (x / 2 ^ 64) 64 (x % 2 ^ 64) j h) ∙ ap (λ n. bit_at n j) (shr_split x 64)

up_low : (a s j : ℕ) → j < 64 → j < s → bit_at (a * 2 ^ s % 2 ^ 64) j ≡ 0
up_low a s j h l =
    let z : a * 2 ^ s ≡ a * 2 ^ s + 0 = omega arith in
    bit_at-low (a * 2 ^ s) j h ∙ (ap (λ n. bit_at n j) z ∙ (bit_at_cat_low a s 0 j l ∙ bit_at-zero j))

up_high : (a s j : ℕ) → j < 64 → s ≤ j → bit_at (a * 2 ^ s % 2 ^ 64) j ≡ bit_at a (j - s)
up_high a s j h l =
    let z : a * 2 ^ s ≡ a * 2 ^ s + 0 = omega arith in
    bit_at-low (a * 2 ^ s) j h ∙ (ap (λ n. bit_at n j) z ∙ bit_at_cat_high a s 0 j (pow_pos s) l)

both_same : (x y z : ℕ) → x ≡ z → y ≡ z → max x y ≡ z
both_same x y z a b = omega arith

left_only : (x y z : ℕ) → x ≡ z → y ≡ 0 → max x y ≡ z
left_only x y z a b = omega arith

right_only : (x y z : ℕ) → x ≡ 0 → y ≡ z → max x y ≡ z
right_only x y z a b = omega arith

-- two words a byte apart, the lower shifted down and the higher up: where both have a bit, it is the same one
pub shifted_word_is : (low high s i : ℕ) → low < 2 ^ 64 → 0 < s → s < 8 → ((j : ℕ) → 8 ≤ j → j < 64 → bit_at low j ≡ bit_at high (j - 8)) → i < 64
    → bit_at (bit_or (low / 2 ^ s) (high * 2 ^ (8 - s) % 2 ^ 64)) i ≡ (if nat_lt i (64 - s) then bit_at low (s + i) else bit_at high (s + i - 8))
shifted_word_is low high s i small a b apart h =
    let up = high * 2 ^ (8 - s) % 2 ^ 64 in
    let down = low / 2 ^ s in
    bit_at_or down up i ∙ elim (cases_lt i (64 - s)) [
      | inl x ↦ (elim (cases_lt i (8 - s)) [
        | inl y ↦ left_only (bit_at down i) (bit_at up i) (bit_at low (s + i)) (bit_at-shr low s i) (up_low high (8 - s) i h y)
        | inr y ↦
            let z : i - (8 - s) ≡ s + i - 8 = omega arith in
            both_same (bit_at down i) (bit_at up i) (bit_at low (s + i)) (bit_at-shr low s i)
            (up_high high (8 - s) i h y ∙ (ap (bit_at high) z ∙ sym (apart (s + i) (omega arith) (omega arith))))
      ]) ∙ sym (if_true (nat_lt i (64 - s)) (bit_at low (s + i)) (bit_at high (s + i - 8)) (lt-ltb i (64 - s) x))
      | inr x ↦
          let z : i - (8 - s) ≡ s + i - 8 = omega arith in
          right_only (bit_at down i) (bit_at up i) (bit_at high (s + i - 8)) (bit_at-shr low s i ∙ bit_at_above low 64 (s + i) small (omega arith))
          (up_high high (8 - s) i h (omega arith) ∙ ap (bit_at high) z)
          ∙ sym (if_false (nat_lt i (64 - s)) (bit_at low (s + i)) (bit_at high (s + i - 8)) (le-ltb i (64 - s) x))
    ]
