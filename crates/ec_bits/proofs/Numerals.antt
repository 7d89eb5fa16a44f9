-- Eight bytes as one number, little-endian.
use Rattle.std.proofs.Common.{ℕ, zero, suc, ◌+◌, ◌-◌, ◌*◌, ◌/◌, ◌%◌, ◌^◌, ◌<◌, ◌≤◌, ◌≡◌, ◌==◌, List, get_or, slice_index, refl, sym, ◌∙◌, ap, subst, inl, inr, arith}
use Rattle.std.specs.Int.{bit_at, from_bool, byte_at, byte_worth, bytes_low_first, sum_through}
use Rattle.std.proofs.Math.Nat.{pow-suc, mul-le-mul_right}
use Rattle.std.proofs.lemmas.Nat.{pow-add}
use Rattle.std.proofs.lemmas.Bool.{cases_lt}
use Rattle.std.proofs.lemmas.Nat.Bits.{bit_at_cat_low, bit_at_cat_high}
use Rattle.ec_bits.specs.Bits.{bit}
use Rattle.ec_bits.proofs.Shifts.{bit_at-shr, bit_at-mod}
use Rattle.ec_bits.proofs.BitLaws.{bit_number}

pow_256 : (k : ℕ) → 256 ^ k ≡ 2 ^ (8 * k)
pow_256 zero = refl
pow_256 (suc k) =
    let e : 8 * suc k ≡ 8 * k + 8 = omega arith in
    pow-suc 256 k ∙ (ap (λ n. n * 256) (pow_256 k) ∙ sym (ap (λ n. 2 ^ n) e ∙ pow-add 2 (8 * k) 8))

above : (b s p : ℕ) → b < 256 → s < p → b * p + s < p * 256
above b s p h l =
    let m : b * p ≤ 255 * p = mul-le-mul_right p (let x : b ≤ 255 = omega arith in x) in
    omega arith

worth : (k b : ℕ) → byte_worth (suc k) b ≡ b * 2 ^ (8 * suc k)
worth k b = ap (λ n. b * n) (pow_256 (suc k))

pub sum_small : (bs : List ℕ) (k : ℕ) → ((m : ℕ) → m ≤ k → slice_index bs m < 256) → sum_through (λ m. byte_worth m (slice_index bs m)) k < 2 ^ (8 * suc k)
sum_small bs zero h = h 0 (omega arith)
sum_small bs (suc k) h =
    let s = sum_through (λ m. byte_worth m (slice_index bs m)) k in
    let b = slice_index bs (suc k) in
    let p = 2 ^ (8 * suc k) in
    let w : s + byte_worth (suc k) b ≡ b * p + s = ap (λ n. s + n) (worth k b) ∙ (let x : s + b * p ≡ b * p + s = omega arith in x) in
    let e : 8 * suc (suc k) ≡ 8 * suc k + 8 = omega arith in
    let q : 2 ^ (8 * suc (suc k)) ≡ p * 256 = ap (λ n. 2 ^ n) e ∙ pow-add 2 (8 * suc k) 8 in
    subst (λ n. n < 2 ^ (8 * suc (suc k))) (sym w) (subst (λ n. b * p + s < n) (sym q) (above b s p (h (suc k) (omega arith)) (sum_small bs k (λ m l. h m (omega arith)))))

pub sum_bits : (bs : List ℕ) (k i : ℕ) → ((m : ℕ) → m ≤ k → slice_index bs m < 256) → i < 8 * suc k
    → bit_at (sum_through (λ m. byte_worth m (slice_index bs m)) k) i ≡ bit_at (slice_index bs (i / 8)) (i % 8)
sum_bits bs zero i h l =
    let d : i / 8 ≡ 0 = omega arith in
    let m : i % 8 ≡ i = omega arith in
    sym (ap (λ n. bit_at (slice_index bs n) (i % 8)) d ∙ ap (bit_at (slice_index bs 0)) m)
sum_bits bs (suc k) i h l =
    let s = sum_through (λ m. byte_worth m (slice_index bs m)) k in
    let b = slice_index bs (suc k) in
    let n = 8 * suc k in
    let lower : (m : ℕ) → m ≤ k → slice_index bs m < 256 = λ m l. h m (omega arith) in
    let w : s + byte_worth (suc k) b ≡ b * 2 ^ n + s = ap (λ x. s + x) (worth k b) ∙ (let x : s + b * 2 ^ n ≡ b * 2 ^ n + s = omega arith in x) in
    ap (λ x. bit_at x i) w ∙ elim (cases_lt i n) [
      | inl x ↦ bit_at_cat_low b n s i x ∙ sum_bits bs k i lower x
      | inr x ↦
          let d : i / 8 ≡ suc k = omega arith in
          let m : i % 8 ≡ i - n = omega arith in
          bit_at_cat_high b n s i (sum_small bs k lower) x ∙ sym (ap (λ y. bit_at (slice_index bs y) (i % 8)) d ∙ ap (bit_at b) m)
    ]

-- the number of eight bytes has their bits
pub word_bits : (bs src : List ℕ) (at n i : ℕ) → n ≡ sum_through (λ m. byte_worth m (slice_index bs m)) 7
    → ((k : ℕ) → k < 8 → get_or bs k 0 ≡ get_or src (at + k) 0) → ((k : ℕ) → slice_index src k < 256) → i < 64
    → bit_at n i ≡ from_bool (bit src (8 * at + i))
word_bits bs src at n i e same small l =
    ap (λ m. bit_at m i) e
    ∙ (sum_bits bs 7 i (λ m x. subst (λ y. y < 256) (sym (same m (omega arith))) (small (at + m))) l
    ∙ (ap (λ m. bit_at m (i % 8)) (same (i / 8) (omega arith)) ∙ bit_number src (8 * at + i) (at + i / 8) (i % 8) (omega arith) (omega arith)))

low_first : (a n v k : ℕ) → k < n → get_or (bytes_low_first a n v) k 0 ≡ byte_at (a + k) v
low_first a zero v k h = absurd (omega arith)
low_first a (suc n) v zero h = let e : a ≡ a + 0 = omega arith in ap (λ m. byte_at m v) e
low_first a (suc n) v (suc k) h = let e : suc a + k ≡ a + suc k = omega arith in low_first (suc a) n v k (omega arith) ∙ ap (λ m. byte_at m v) e

byte_bits : (m v j : ℕ) → j < 8 → bit_at (byte_at m v) j ≡ bit_at v (8 * m + j)
byte_bits zero v j h = let e : j ≡ 8 * 0 + j = omega arith in bit_at-mod v j h ∙ ap (bit_at v) e
byte_bits (suc m) v j h = bit_at-mod (v / 256 ^ suc m) j h ∙ (ap (λ n. bit_at (v / n) j) (pow_256 (suc m)) ∙ bit_at-shr v (8 * suc m) j)

-- the bytes of a number have its bits
pub number_bits : (v i : ℕ) → i < 64 → bit (bytes_low_first 0 8 v) i ≡ (bit_at v i == 1)
unfolding bit
number_bits v i h =
    let e : 8 * (i / 8) + i % 8 ≡ i = omega arith in
    let z : 0 + i / 8 ≡ i / 8 = omega arith in
    ap (λ m. bit_at m (i % 8) == 1) (low_first 0 8 v (i / 8) (omega arith) ∙ ap (λ m. byte_at m v) z)
    ∙ ap (λ m. m == 1) (byte_bits (i / 8) v (i % 8) (omega arith) ∙ ap (bit_at v) e)

byte_small : (m v : ℕ) → byte_at m v < 256
byte_small zero v = omega arith
byte_small (suc m) v = omega arith

pub bytes_small : (a n v k : ℕ) → slice_index (bytes_low_first a n v) k < 256
bytes_small a zero v k = omega arith
bytes_small a (suc n) v zero = byte_small a v
bytes_small a (suc n) v (suc k) = bytes_small (suc a) n v k
