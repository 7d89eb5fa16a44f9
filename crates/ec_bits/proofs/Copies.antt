-- Runs of bits, one after the other.
use Rattle.std.proofs.Common.{ℕ, ◌+◌, ◌-◌, ◌*◌, ◌/◌, ◌%◌, ◌^◌, ◌<◌, ◌≡◌, ◌⊎◌, List, length, Bool, slice_index, slice_set, Option, Some, None, unwrap_or, refl, sym, ◌∙◌, ap, subst, inl, inr, arith, max, bit_or, get_or-set_same, get_or-set_other}
use Rattle.std.specs.Int.{bit_at, from_bool}
use Rattle.std.specs.Option.{option_or}
use Rattle.std.proofs.lemmas.Bool.{cases_eq, cases_lt}
use Rattle.std.proofs.lemmas.Nat.Bits.{bit_at_cat_low, bit_at_cat_high, bit_at_above, bit_at_or}
use Rattle.ec_bits.specs.Bits.{bit, within, copied, run_updates}
use Rattle.ec_bits.proofs.AnyLaws.{if_true, if_false, within_true, within_below, within_above}
use Rattle.ec_bits.proofs.BitLaws.{bit_number, overlay_alike, overlay_own, length-overlay}
use Rattle.ec_bits.proofs.Algebra.{overlay-overlay}
use Rattle.ec_bits.proofs.Overlays.{byte_is_overlay}
use Rattle.ec_bits.proofs.Shifts.{bit_at-shr, shl_low, shl_high}

-- no bits copied
pub copied_none : (xs : List ℕ) (to : ℕ) (src : List ℕ) (from : ℕ) → copied xs to src from 0 ≡ xs
copied_none xs to src from = overlay_own xs (run_updates to src from 0) (λ i l.
    let none : run_updates to src from 0 i ≡ None = elim (cases_lt i to) [
      | inl x ↦ if_false (within to 0 i) (Some (bit src (from + (i - to)))) None (within_below to 0 i x)
      | inr x ↦ if_false (within to 0 i) (Some (bit src (from + (i - to)))) None (within_above to 0 i (omega arith))
    ] in
    ap (λ (o : Option Bool). unwrap_or o (bit xs i)) none)

-- a run, and the run behind it
pub run_more : (to : ℕ) (src : List ℕ) (from n m i : ℕ)
    → option_or (run_updates (to + n) src (from + n) m i) (run_updates to src from n i) ≡ run_updates to src from (n + m) i
run_more to src from n m i = elim (cases_lt i to) [
  | inl x ↦ rw (within_below (to + n) m i (omega arith), within_below to n i x, within_below to (n + m) i x) refl
  | inr x ↦ elim (cases_lt i (to + n)) [
    | inl y ↦ rw (within_below (to + n) m i y, within_true to n i x y, within_true to (n + m) i x (omega arith)) refl
    | inr y ↦ elim (cases_lt i (to + n + m)) [
      | inl z ↦
          let at : from + n + (i - (to + n)) ≡ from + (i - to) = omega arith in
          rw (within_true (to + n) m i y z, within_true to (n + m) i x (omega arith), at) refl
      | inr z ↦ rw (within_above (to + n) m i z, within_above to n i y, within_above to (n + m) i (omega arith)) refl
    ]
  ]
]

pub copied_more : (xs : List ℕ) (to : ℕ) (src : List ℕ) (from n m : ℕ)
    → copied (copied xs to src from n) (to + n) src (from + n) m ≡ copied xs to src from (n + m)
copied_more xs to src from n m =
    overlay-overlay xs (run_updates to src from n) (run_updates (to + n) src (from + n) m)
    ∙ overlay_alike xs _ _ (λ i l. ap (λ (o : Option Bool). unwrap_or o (bit xs i)) (run_more to src from n m i))

-- one byte of eight copied bits
pub byte_copied : (xs : List ℕ) (k v : ℕ) (src : List ℕ) (from : ℕ) → k < length xs → v < 256 → slice_index xs k < 256
    → ((j : ℕ) → j < 8 → bit_at v j ≡ from_bool (bit src (from + j)))
    → slice_set xs k v ≡ copied xs (8 * k) src from 8
byte_copied xs k v src from h small was bits = byte_is_overlay xs (run_updates (8 * k) src from 8) k v h small was
    (λ j l.
    let z : from + (8 * k + j - 8 * k) ≡ from + j = omega arith in
    bits j l ∙ ap (λ (o : Option Bool). from_bool (unwrap_or o (bit xs (8 * k + j))))
    (sym (if_true (within (8 * k) 8 (8 * k + j)) (Some (bit src (from + (8 * k + j - 8 * k)))) None (within_true (8 * k) 8 (8 * k + j) (omega arith) (omega arith)) ∙ ap (λ (n : ℕ). Some (bit src n)) z)))
    (λ i ne. elim (cases_lt i (8 * k)) [
      | inl x ↦ if_false _ _ _ (within_below (8 * k) 8 i x)
      | inr x ↦ if_false _ _ _ (within_above (8 * k) 8 i (omega arith))
    ])

-- the bits of two bytes that follow one another
pub two_bytes : (src : List ℕ) (b s j : ℕ) → slice_index src b < 256 → s + j < 16
    → bit_at (256 * slice_index src (b + 1) + slice_index src b) (s + j) ≡ from_bool (bit src (8 * b + s + j))
two_bytes src b s j small h =
    let low = slice_index src b in
    let high = slice_index src (b + 1) in
    let e : 256 * high + low ≡ high * 2 ^ 8 + low = omega arith in
    ap (λ n. bit_at n (s + j)) e ∙ elim (cases_lt (s + j) 8) [
      | inl x ↦ bit_at_cat_low high 8 low (s + j) x ∙ bit_number src (8 * b + s + j) b (s + j) (omega arith) (omega arith)
      | inr x ↦ bit_at_cat_high high 8 low (s + j) small x ∙ bit_number src (8 * b + s + j) (b + 1) (s + j - 8) (omega arith) (omega arith)
    ]

-- three runs in a row; of an empty one the place doesn't matter
pub copied_thrice : (xs : List ℕ) (to : ℕ) (src : List ℕ) (from h at w t : ℕ) → (w ≡ 0) ⊎ (at ≡ to + h)
    → copied (copied (copied xs to src from h) at src (from + h) w) (to + (h + w)) src (from + (h + w)) t ≡ copied xs to src from (h + w + t)
copied_thrice xs to src from h at w t o =
    let one = copied xs to src from h in
    let two : copied one at src (from + h) w ≡ copied xs to src from (h + w) = elim o [
      | inl z ↦
          let e : h ≡ h + w = omega arith in
          ap (copied one at src (from + h)) z ∙ (copied_none one at src (from + h) ∙ ap (copied xs to src from) e)
      | inr q ↦ ap (λ (p : ℕ). copied one p src (from + h) w) q ∙ copied_more xs to src from h w
    ] in
    ap (λ (ys : List ℕ). copied ys (to + (h + w)) src (from + (h + w)) t) two ∙ copied_more xs to src from (h + w) t

or_none : (x y : ℕ) → y ≡ 0 → max x y ≡ x
or_none x y e = omega arith

none_or : (x y : ℕ) → x ≡ 0 → max x y ≡ y
none_or x y e = omega arith

-- the lower byte shifted down and the higher one shifted up
pub shifted_is : (low high s j : ℕ) → low < 256 → 0 < s → s < 8 → j < 8
    → bit_at (bit_or (low / 2 ^ s) (high * 2 ^ (8 - s) % 256)) j ≡ bit_at (256 * high + low) (s + j)
shifted_is low high s j small a b h =
    let e : 256 * high + low ≡ high * 2 ^ 8 + low = omega arith in
    let up = high * 2 ^ (8 - s) % 256 in
    bit_at_or (low / 2 ^ s) up j ∙ elim (cases_lt (s + j) 8) [
      | inl x ↦ or_none (bit_at (low / 2 ^ s) j) (bit_at up j) (shl_low high (8 - s) j h (omega arith))
          ∙ (bit_at-shr low s j ∙ (sym (bit_at_cat_low high 8 low (s + j) x) ∙ ap (λ n. bit_at n (s + j)) (sym e)))
      | inr x ↦
          let z : j - (8 - s) ≡ s + j - 8 = omega arith in
          none_or (bit_at (low / 2 ^ s) j) (bit_at up j) (bit_at-shr low s j ∙ bit_at_above low 8 (s + j) small x)
          ∙ (shl_high high (8 - s) j h (omega arith) ∙ (ap (bit_at high) z ∙ (sym (bit_at_cat_high high 8 low (s + j) small x) ∙ ap (λ n. bit_at n (s + j)) (sym e))))
    ]

-- the next of the bytes that are copied in order
pub next_byte : (start now : List ℕ) (at k : ℕ) (src : List ℕ) (from v : ℕ) → now ≡ copied start (8 * at) src from (8 * k)
    → at + k < length now → v < 256 → slice_index now (at + k) < 256
    → ((j : ℕ) → j < 8 → bit_at v j ≡ from_bool (bit src (from + 8 * k + j)))
    → slice_set now (at + k) v ≡ copied start (8 * at) src from (8 * (k + 1))
next_byte start now at k src from v inv l small was bits =
    let p : 8 * (at + k) ≡ 8 * at + 8 * k = omega arith in
    let n : 8 * k + 8 ≡ 8 * (k + 1) = omega arith in
    byte_copied now (at + k) v src (from + 8 * k) l small was bits
    ∙ (ap (λ (q : ℕ). copied now q src (from + 8 * k) 8) p
    ∙ (ap (λ (ys : List ℕ). copied ys (8 * at + 8 * k) src (from + 8 * k) 8) inv
    ∙ (copied_more start (8 * at) src from (8 * k) 8 ∙ ap (copied start (8 * at) src from) n)))

pub length-copied : (xs : List ℕ) (to : ℕ) (src : List ℕ) (from n : ℕ) → length (copied xs to src from n) ≡ length xs
length-copied xs to src from n = length-overlay xs (run_updates to src from n)

-- a byte that is set leaves bytes
pub set_small : (xs : List ℕ) (k v : ℕ) → k < length xs → v < 256 → ((i : ℕ) → slice_index xs i < 256)
    → (i : ℕ) → slice_index (slice_set xs k v) i < 256
set_small xs k v h small was i = elim (cases_eq i k) [
  | inl e ↦ subst (λ (n : ℕ). slice_index (slice_set xs k v) n < 256) (sym e) (subst (λ (n : ℕ). n < 256) (sym (get_or-set_same xs k v 0 h)) small)
  | inr ne ↦ subst (λ (n : ℕ). n < 256) (sym (get_or-set_other xs k i v 0 ne)) (was i)
]
