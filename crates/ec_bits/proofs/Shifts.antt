-- What the code computes on one byte.
use Rattle.std.proofs.Common.{ℕ, ◌+◌, ◌-◌, ◌*◌, ◌/◌, ◌%◌, ◌^◌, ◌<◌, ◌≤◌, ◌≡◌, false, sym, ◌∙◌, ap, inl, inr, arith, min, max, bit_and, bit_or, List, slice_index, pow_pos, if◌then◌else◌}
use Rattle.std.proofs.lemmas.Nat.{shr-shr, shr_split, mod_below}
use Rattle.ec_bits.proofs.AnyLaws.{if_true, if_false, within_true, within_below, within_above}
use Rattle.std.specs.Int.{bit_at, from_bool}
use Rattle.std.proofs.lemmas.Nat.Bits.{bit_at_and, bit_at_or, bit_at_not, bit_at-lt, bit_at-zero, bit_at_cat_low, bit_at_cat_high, bit_at_ones, bit_at_ones_above, ones_shr}
use Rattle.std.proofs.lemmas.Bool.{cases_lt}
use Rattle.ec_bits.specs.Bits.{bit, within}
use Rattle.ec_bits.proofs.BitLaws.{bit_number}
use Rattle.std.specs.Int.{w8}

pub bit_at-mod : (x j : ℕ) → j < 8 → bit_at (x % 256) j ≡ bit_at x j
bit_at-mod x j h = sym (bit_at_cat_low (x / 2 ^ 8) 8 (x % 2 ^ 8) j h) ∙ ap (λ n. bit_at n j) (shr_split x 8)

pub bit_at-shr : (x s j : ℕ) → bit_at (x / 2 ^ s) j ≡ bit_at x (s + j)
bit_at-shr x s j = ap (λ n. n % 2) (shr-shr x s j)

pub fetch_is : (xs : List ℕ) (from low high j : ℕ) → low ≡ slice_index xs (from / 8) → high ≡ slice_index xs (from / 8 + 1) → low < 256 → j < 8
    → bit_at ((256 * high + low) / 2 ^ (from % 8) % 256) j ≡ from_bool (bit xs (from + j))
fetch_is xs from low high j a b small l =
    let s = from % 8 in
    let e : 256 * high + low ≡ high * 2 ^ 8 + low = omega arith in
    let first : bit_at ((256 * high + low) / 2 ^ s % 256) j ≡ bit_at (high * 2 ^ 8 + low) (s + j)
    = bit_at-mod ((256 * high + low) / 2 ^ s) j l ∙ (bit_at-shr (256 * high + low) s j ∙ ap (λ n. bit_at n (s + j)) e) in
    first ∙ elim (cases_lt (s + j) 8) [
      | inl x ↦ bit_at_cat_low high 8 low (s + j) x ∙ (ap (λ n. bit_at n (s + j)) a ∙ bit_number xs (from + j) (from / 8) (s + j) (omega arith) (omega arith))
      | inr x ↦ bit_at_cat_high high 8 low (s + j) small x ∙ (ap (λ n. bit_at n (s + j - 8)) b ∙ bit_number xs (from + j) (from / 8 + 1) (s + j - 8) (omega arith) (omega arith))
    ]

pub shl_low : (a s j : ℕ) → j < 8 → j < s → bit_at (a * 2 ^ s % 256) j ≡ 0
shl_low a s j h l =
    let z : a * 2 ^ s ≡ a * 2 ^ s + 0 = omega arith in
    bit_at-mod (a * 2 ^ s) j h ∙ (ap (λ n. bit_at n j) z ∙ (bit_at_cat_low a s 0 j l ∙ bit_at-zero j))

pub shl_high : (a s j : ℕ) → j < 8 → s ≤ j → bit_at (a * 2 ^ s % 256) j ≡ bit_at a (j - s)
shl_high a s j h l =
    let z : a * 2 ^ s ≡ a * 2 ^ s + 0 = omega arith in
    bit_at-mod (a * 2 ^ s) j h ∙ (ap (λ n. bit_at n j) z ∙ bit_at_cat_high a s 0 j (pow_pos s) l)

-- the mask of n bits from s on
mask_at : (n s j : ℕ) → 0 < n → n ≤ 8 → j < 8 → s ≤ j → bit_at (255 / 2 ^ (8 - n) * 2 ^ s % 256) j ≡ bit_at (2 ^ n - 1) (j - s)
mask_at n s j p l h x =
    let e : 8 - (8 - n) ≡ n = omega arith in
    shl_high (255 / 2 ^ (8 - n)) s j h x ∙ ap (λ m. bit_at m (j - s)) (ones_shr 8 (8 - n) (omega arith) ∙ ap (λ m. 2 ^ m - 1) e)

chosen : (b s : ℕ) → s < 2 → max (min b (1 - 1)) (min s 1) ≡ s
chosen b s h = omega arith

kept : (b s : ℕ) → b < 2 → max (min b (1 - 0)) (min s 0) ≡ b
kept b s h = omega arith

pub merge_is : (byte value s n j : ℕ) → 0 < n → s + n ≤ 8 → j < 8
    → bit_at (bit_or (bit_and byte (255 - 255 / 2 ^ (8 - n) * 2 ^ s % 256)) (bit_and (value * 2 ^ s % 256) (255 / 2 ^ (8 - n) * 2 ^ s % 256))) j
    ≡ (if within s n j then bit_at value (j - s) else bit_at byte j)
merge_is byte value s n j p l h =
    let m = 255 / 2 ^ (8 - n) * 2 ^ s % 256 in
    let v = value * 2 ^ s % 256 in
    let small : m < 2 ^ 8 = mod_below (255 / 2 ^ (8 - n) * 2 ^ s) (2 ^ 8) (pow_pos 8) in
    let all : bit_at (bit_or (bit_and byte (255 - m)) (bit_and v m)) j ≡ max (min (bit_at byte j) (1 - bit_at m j)) (min (bit_at v j) (bit_at m j))
    = bit_at_or (bit_and byte (255 - m)) (bit_and v m) j
    ∙ (ap (λ x. max x (bit_at (bit_and v m) j)) (bit_at_and byte (255 - m) j ∙ ap (min (bit_at byte j)) (bit_at_not w8 m j small h))
    ∙ ap (max (min (bit_at byte j) (1 - bit_at m j))) (bit_at_and v m j)) in
    let outside : bit_at m j ≡ 0 → within s n j ≡ false → bit_at (bit_or (bit_and byte (255 - m)) (bit_and v m)) j ≡ (if within s n j then bit_at value (j - s) else bit_at byte j)
    = λ e f. all ∙ (ap (λ x. max (min (bit_at byte j) (1 - x)) (min (bit_at v j) x)) e ∙ (kept (bit_at byte j) (bit_at v j) (bit_at-lt byte j) ∙ sym (if_false _ _ _ f))) in
    elim (cases_lt j s) [
      | inl x ↦ outside (shl_low (255 / 2 ^ (8 - n)) s j h x) (within_below s n j x)
      | inr x ↦ elim (cases_lt j (s + n)) [
        | inl y ↦
            let one : bit_at m j ≡ 1 = mask_at n s j p (omega arith) h x ∙ bit_at_ones n (j - s) (omega arith) in
            all ∙ (ap (λ x. max (min (bit_at byte j) (1 - x)) (min (bit_at v j) x)) one
            ∙ (chosen (bit_at byte j) (bit_at v j) (bit_at-lt v j) ∙ (shl_high value s j h x ∙ sym (if_true _ _ _ (within_true s n j x y)))))
        | inr y ↦ outside (mask_at n s j p (omega arith) h x ∙ bit_at_ones_above n (j - s) (omega arith)) (within_above s n j y)
      ]
    ]
