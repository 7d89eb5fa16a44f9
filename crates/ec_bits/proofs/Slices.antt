-- Whole bytes that are copied at once.
use Rattle.std.proofs.Common.{rules, ℕ, ◌+◌, ◌-◌, ◌*◌, ◌/◌, ◌%◌, ◌^◌, ◌<◌, ◌≤◌, ◌≡◌, ◌==◌, List, length, Bool, false, get_or, slice_index, Option, Some, None, unwrap_or, refl, sym, ◌∙◌, ap, subst, inl, inr, arith, if◌then◌else◌}
use Rattle.std.specs.Int.{bit_at, from_bool, byte_worth, bytes_low_first, sum_through}
use Rattle.std.proofs.lemmas.Bool.{cases_lt, cases_Bool}
use Rattle.std.proofs.lemmas.List.{places, get_or-replicate, length-replicate, get_or_past}
use Rattle.std.proofs.lemmas.Nat.Bits.{bit_at_above, same_from_bits}
use borrow.Rule.Slice.PartMut.{put_mid}
use Rattle.ec_bits.specs.Bits.{bit, within, overlay, copied, run_updates, bits_number, with_number, zeros}
use Rattle.ec_bits.proofs.AnyLaws.{if_true, if_false, within_true, within_below, within_above, within_parts}
use Rattle.ec_bits.proofs.BitLaws.{test_from_bool, bit-overlay, bit-zeros, length-overlay, overlay_alike}
use Rattle.ec_bits.proofs.Numerals.{number_bits, word_bits, sum_small}
use Rattle.ec_bits.proofs.Numbers.{bits_number-lt, bit_at-number_below}
use Rattle.ec_bits.proofs.Overlays.{Alike, alike_overlay, alike_sym, alike_trans, overlay_small, same_from_bit}

length-put_mid : (xs ys : List ℕ) (a n : ℕ) → a + n ≤ length xs → length ys ≡ n → length (put_mid a n xs ys) ≡ length xs
length-put_mid xs ys a n h e = search (rules, places)

before_mid : (xs ys : List ℕ) (a n k : ℕ) → a + n ≤ length xs → length ys ≡ n → k < a → get_or (put_mid a n xs ys) k 0 ≡ get_or xs k 0
before_mid xs ys a n k h e l = search (rules, places)

in_mid : (xs ys : List ℕ) (a n k : ℕ) → a + n ≤ length xs → length ys ≡ n → a ≤ k → k < a + n → get_or (put_mid a n xs ys) k 0 ≡ get_or ys (k - a) 0
in_mid xs ys a n k h e l m = search (rules, places)

behind_mid : (xs ys : List ℕ) (a n k : ℕ) → a + n ≤ length xs → length ys ≡ n → a + n ≤ k → get_or (put_mid a n xs ys) k 0 ≡ get_or xs k 0
behind_mid xs ys a n k h e l = search (rules, places)

-- bytes written over bytes are the copy of their bits
pub slice_copied : (xs ys src : List ℕ) (a b n : ℕ) → a + n ≤ length xs → length ys ≡ n
    → ((k : ℕ) → k < n → get_or ys k 0 ≡ get_or src (b + k) 0)
    → ((k : ℕ) → slice_index xs k < 256) → ((k : ℕ) → slice_index src k < 256)
    → put_mid a n xs ys ≡ copied xs (8 * a) src (8 * b) (8 * n)
unfolding bit
slice_copied xs ys src a b n h e same small other =
    let f = run_updates (8 * a) src (8 * b) (8 * n) in
    let now = put_mid a n xs ys in
    let mid : (k : ℕ) → a ≤ k → k < a + n → get_or now k 0 ≡ get_or src (b + (k - a)) 0
    = λ k l m. in_mid xs ys a n k h e l m ∙ same (k - a) (omega arith) in
    let al : Alike now xs = record {
      length_is = length-put_mid xs ys a n h e;
      above = λ k j l. elim (cases_lt k a) [
        | inl x ↦ ap (λ m. bit_at m j) (before_mid xs ys a n k h e x)
        | inr x ↦ elim (cases_lt k (a + n)) [
          | inl y ↦ ap (λ m. bit_at m j) (mid k x y) ∙ (bit_at_above (slice_index src (b + (k - a))) 8 j (other (b + (k - a))) l ∙ sym (bit_at_above (slice_index xs k) 8 j (small k) l))
          | inr y ↦ ap (λ m. bit_at m j) (behind_mid xs ys a n k h e y)
        ]
      ];
    } in
    same_from_bit now (overlay xs f) (alike_trans now xs (overlay xs f) al (alike_sym (overlay xs f) xs (alike_overlay xs f)))
    (λ i l.
    let lx : i < 8 * length xs = let q = al.length_is in omega arith in
    let kept : within (8 * a) (8 * n) i ≡ false → get_or now (i / 8) 0 ≡ get_or xs (i / 8) 0 → bit now i ≡ bit (overlay xs f) i
    = λ w g. ap (λ m. bit_at m (i % 8) == 1) g ∙ sym (bit-overlay xs f i lx ∙ ap (λ (o : Option Bool). unwrap_or o (bit xs i)) (if_false (within (8 * a) (8 * n) i) (Some (bit src (8 * b + (i - 8 * a)))) None w)) in
    elim (cases_lt i (8 * a)) [
      | inl x ↦ kept (within_below (8 * a) (8 * n) i x) (before_mid xs ys a n (i / 8) h e (omega arith))
      | inr x ↦ elim (cases_lt i (8 * a + 8 * n)) [
        | inl y ↦
            let d : (8 * b + (i - 8 * a)) / 8 ≡ b + (i / 8 - a) = omega arith in
            let m : (8 * b + (i - 8 * a)) % 8 ≡ i % 8 = omega arith in
            let there : bit src (8 * b + (i - 8 * a)) ≡ (bit_at (slice_index src (b + (i / 8 - a))) (i % 8) == 1) = rw (d, m) refl in
            ap (λ m. bit_at m (i % 8) == 1) (mid (i / 8) (omega arith) (omega arith))
            ∙ (sym there ∙ sym (bit-overlay xs f i lx ∙ ap (λ (o : Option Bool). unwrap_or o (bit xs i)) (if_true (within (8 * a) (8 * n) i) (Some (bit src (8 * b + (i - 8 * a)))) None (within_true (8 * a) (8 * n) i x y))))
        | inr y ↦ kept (within_above (8 * a) (8 * n) i y) (behind_mid xs ys a n (i / 8) h e (omega arith))
      ]
    ])

-- a number's bytes written over eight bytes
pub word_written : (xs ys : List ℕ) (a word : ℕ) → a + 8 ≤ length xs → ys ≡ bytes_low_first 0 8 word
    → ((k : ℕ) → slice_index xs k < 256) → ((k : ℕ) → slice_index ys k < 256)
    → put_mid a 8 xs ys ≡ with_number xs (8 * a) 64 word
word_written xs ys a word h e small other =
    let len : length ys ≡ 8 = ap length e in
    let eight : put_mid a 8 xs ys ≡ copied xs (8 * a) ys 0 64
    = slice_copied xs ys ys a 0 8 h len (λ k l. let z : k ≡ 0 + k = omega arith in ap (λ (m : ℕ). get_or ys m 0) z) small other in
    eight ∙ overlay_alike xs (run_updates (8 * a) ys 0 64) (λ i. if within (8 * a) 64 i then Some (bit_at word (i - 8 * a) == 1) else None)
    (λ i l. ap (λ (o : Option Bool). unwrap_or o (bit xs i)) (elim (cases_Bool (within (8 * a) 64 i)) [
      | inl t ↦
          let w = within_parts (8 * a) 64 i t in
          let lo : 8 * a ≤ i = w.0 in
          let hi : i < 8 * a + 64 = w.1 in
          let z : 0 + (i - 8 * a) ≡ i - 8 * a = omega arith in
          if_true (within (8 * a) 64 i) (Some (bit ys (0 + (i - 8 * a)))) None t
          ∙ (ap (λ (m : ℕ). Some (bit ys m)) z
          ∙ (ap (λ (zs : List ℕ). Some (bit zs (i - 8 * a))) e
          ∙ (ap (λ (b : Bool). Some b) (number_bits word (i - 8 * a) (omega arith))
          ∙ sym (if_true (within (8 * a) 64 i) (Some (bit_at word (i - 8 * a) == 1)) None t))))
      | inr f ↦ if_false (within (8 * a) 64 i) (Some (bit ys (0 + (i - 8 * a)))) None f
          ∙ sym (if_false (within (8 * a) 64 i) (Some (bit_at word (i - 8 * a) == 1)) None f)
    ]))

-- a number written is a copy, if it has the bits
pub word_copied : (xs : List ℕ) (a v : ℕ) (src : List ℕ) (from : ℕ) → ((i : ℕ) → i < 64 → bit_at v i ≡ from_bool (bit src (from + i)))
    → with_number xs (8 * a) 64 v ≡ copied xs (8 * a) src from 64
word_copied xs a v src from bits = overlay_alike xs (λ i. if within (8 * a) 64 i then Some (bit_at v (i - 8 * a) == 1) else None) (run_updates (8 * a) src from 64)
    (λ i l. ap (λ (o : Option Bool). unwrap_or o (bit xs i)) (elim (cases_Bool (within (8 * a) 64 i)) [
      | inl t ↦
          let w = within_parts (8 * a) 64 i t in
          let lo : 8 * a ≤ i = w.0 in
          let hi : i < 8 * a + 64 = w.1 in
          if_true (within (8 * a) 64 i) (Some (bit_at v (i - 8 * a) == 1)) None t
          ∙ (ap (λ (n : ℕ). Some (n == 1)) (bits (i - 8 * a) (omega arith))
          ∙ (ap (λ (b : Bool). Some b) (test_from_bool (bit src (from + (i - 8 * a))))
          ∙ sym (if_true (within (8 * a) 64 i) (Some (bit src (from + (i - 8 * a)))) None t)))
      | inr f ↦ if_false (within (8 * a) 64 i) (Some (bit_at v (i - 8 * a) == 1)) None f
          ∙ sym (if_false (within (8 * a) 64 i) (Some (bit src (from + (i - 8 * a)))) None f)
    ]))

-- the low bits of a number, copied from its bytes
pub number_copied : (xs : List ℕ) (from n value : ℕ) → n ≤ 64 → copied xs from (bytes_low_first 0 8 value) 0 n ≡ with_number xs from n value
number_copied xs from n value few = overlay_alike xs (run_updates from (bytes_low_first 0 8 value) 0 n) (λ i. if within from n i then Some (bit_at value (i - from) == 1) else None)
    (λ i l. ap (λ (o : Option Bool). unwrap_or o (bit xs i)) (elim (cases_Bool (within from n i)) [
      | inl t ↦
          let w = within_parts from n i t in
          let lo : from ≤ i = w.0 in
          let hi : i < from + n = w.1 in
          let z : 0 + (i - from) ≡ i - from = omega arith in
          if_true (within from n i) (Some (bit (bytes_low_first 0 8 value) (0 + (i - from)))) None t
          ∙ (ap (λ (m : ℕ). Some (bit (bytes_low_first 0 8 value) m)) z
          ∙ (ap (λ (b : Bool). Some b) (number_bits value (i - from) (omega arith))
          ∙ sym (if_true (within from n i) (Some (bit_at value (i - from) == 1)) None t)))
      | inr f ↦ if_false (within from n i) (Some (bit (bytes_low_first 0 8 value) (0 + (i - from)))) None f
          ∙ sym (if_false (within from n i) (Some (bit_at value (i - from) == 1)) None f)
    ]))

zero_small : (k : ℕ) → slice_index (zeros 8) k < 256
zero_small k = elim (cases_lt k 8) [
  | inl l ↦ let e : slice_index (zeros 8) k ≡ 0 = get_or-replicate 8 k 0 0 l in omega (arith, e)
  | inr g ↦ let e : slice_index (zeros 8) k ≡ 0 = get_or_past (zeros 8) k 0 (let z : length (zeros 8) ≡ 8 = length-replicate {A = ℕ} 8 0 in omega (arith, z)) in omega (arith, e)
]

-- the number of eight bytes that a run was copied into, over zeros
pub number_of_copy : (bs src : List ℕ) (from n v : ℕ) → n ≤ 64 → bs ≡ copied (zeros 8) 0 src from n
    → v ≡ sum_through (λ m. byte_worth m (slice_index bs m)) 7 → v ≡ bits_number src from n
number_of_copy bs src from n v few e is =
    let small : (k : ℕ) → slice_index bs k < 256
    = λ k. subst (λ (ys : List ℕ). slice_index ys k < 256) (sym e) (overlay_small (zeros 8) (run_updates 0 src from n) zero_small k) in
    let low : (i : ℕ) → i < 64 → bit_at v i ≡ from_bool (unwrap_or (run_updates 0 src from n i) false)
    = λ i l. (let at : 8 * 0 + i ≡ i = omega arith in word_bits bs bs 0 v i is (λ k h. let z : k ≡ 0 + k = omega arith in ap (λ (m : ℕ). get_or bs m 0) z) small l ∙ ap (λ (m : ℕ). from_bool (bit bs m)) at)
    ∙ (ap (λ (ys : List ℕ). from_bool (bit ys i)) e
    ∙ (ap from_bool (bit-overlay (zeros 8) (run_updates 0 src from n) i (let z : length (zeros 8) ≡ 8 = length-replicate {A = ℕ} 8 0 in omega (arith, z)))
    ∙ ap (λ (b : Bool). from_bool (unwrap_or (run_updates 0 src from n i) b)) (bit-zeros 8 i))) in
    let word : v < 2 ^ 64 = subst (λ (m : ℕ). m < 2 ^ 64) (sym is) (sum_small bs 7 (λ m l. small m)) in
    same_from_bits v (bits_number src from n) (λ i. elim (cases_lt i n) [
      | inl x ↦
          let z : from + (i - 0) ≡ from + i = omega arith in
          low i (omega arith) ∙ (ap (λ (o : Option Bool). from_bool (unwrap_or o false)) (if_true (within 0 n i) (Some (bit src (from + (i - 0)))) None (within_true 0 n i (omega arith) (omega arith)))
          ∙ (ap (λ (m : ℕ). from_bool (bit src m)) z ∙ sym (bit_at-number_below n (λ k. bit src (from + k)) i x)))
      | inr x ↦
          let none : bit_at v i ≡ 0 = elim (cases_lt i 64) [
            | inl y ↦ low i y ∙ ap (λ (o : Option Bool). from_bool (unwrap_or o false)) (if_false (within 0 n i) (Some (bit src (from + (i - 0)))) None (within_above 0 n i (omega arith)))
            | inr y ↦ bit_at_above v 64 i word y
          ] in
          none ∙ sym (bit_at_above (bits_number src from n) n i (bits_number-lt src from n) x)
    ])

-- bits of a part of a list
bit_part : (src part : List ℕ) (b i : ℕ) → ((k : ℕ) → get_or part k 0 ≡ get_or src (b + k) 0) → bit part i ≡ bit src (8 * b + i)
unfolding bit
bit_part src part b i same =
    let d : (8 * b + i) / 8 ≡ b + i / 8 = omega arith in
    let m : (8 * b + i) % 8 ≡ i % 8 = omega arith in
    rw (d, m) (ap (λ n. bit_at n (i % 8) == 1) (same (i / 8)))

-- all bits of a part copied, where it lies in the whole
pub part_copied : (xs ys mid src part : List ℕ) (a b n f : ℕ) → a + n ≤ length xs → length mid ≡ n
    → ((k : ℕ) → k < n → get_or mid k 0 ≡ get_or xs (a + k) 0) → ((k : ℕ) → get_or part k 0 ≡ get_or src (b + k) 0)
    → ys ≡ copied mid 0 part f (8 * n)
    → put_mid a n xs ys ≡ copied xs (8 * a) src (8 * b + f) (8 * n)
unfolding bit
part_copied xs ys mid src part a b n f h lm same other e =
    let g = run_updates 0 part f (8 * n) in
    let t = run_updates (8 * a) src (8 * b + f) (8 * n) in
    let now = put_mid a n xs ys in
    let ly : length ys ≡ n = ap length e ∙ (length-overlay mid g ∙ lm) in
    let al : Alike now xs = record {
      length_is = length-put_mid xs ys a n h ly;
      above = λ k j l. elim (cases_lt k a) [
        | inl x ↦ ap (λ m. bit_at m j) (before_mid xs ys a n k h ly x)
        | inr x ↦ elim (cases_lt k (a + n)) [
          | inl y ↦
              let z : a + (k - a) ≡ k = omega arith in
              ap (λ m. bit_at m j) (in_mid xs ys a n k h ly x y)
              ∙ (ap (λ (zs : List ℕ). bit_at (slice_index zs (k - a)) j) e
              ∙ ((alike_overlay mid g).above (k - a) j l ∙ ap (λ m. bit_at m j) (same (k - a) (omega arith) ∙ ap (λ (m : ℕ). get_or xs m 0) z)))
          | inr y ↦ ap (λ m. bit_at m j) (behind_mid xs ys a n k h ly y)
        ]
      ];
    } in
    same_from_bit now (overlay xs t) (alike_trans now xs (overlay xs t) al (alike_sym (overlay xs t) xs (alike_overlay xs t)))
    (λ i l.
    let lx : i < 8 * length xs = let q = al.length_is in omega arith in
    let kept : within (8 * a) (8 * n) i ≡ false → get_or now (i / 8) 0 ≡ get_or xs (i / 8) 0 → bit now i ≡ bit (overlay xs t) i
    = λ w q. ap (λ m. bit_at m (i % 8) == 1) q ∙ sym (bit-overlay xs t i lx ∙ ap (λ (o : Option Bool). unwrap_or o (bit xs i)) (if_false (within (8 * a) (8 * n) i) (Some (bit src (8 * b + f + (i - 8 * a)))) None w)) in
    elim (cases_lt i (8 * a)) [
      | inl x ↦ kept (within_below (8 * a) (8 * n) i x) (before_mid xs ys a n (i / 8) h ly (omega arith))
      | inr x ↦ elim (cases_lt i (8 * a + 8 * n)) [
        | inl y ↦
            let d : (i - 8 * a) / 8 ≡ i / 8 - a = omega arith in
            let m : (i - 8 * a) % 8 ≡ i % 8 = omega arith in
            let here : bit ys (i - 8 * a) ≡ (bit_at (slice_index ys (i / 8 - a)) (i % 8) == 1) = rw (d, m) refl in
            let z : f + (i - 8 * a - 0) ≡ f + (i - 8 * a) = omega arith in
            let w : 8 * b + (f + (i - 8 * a)) ≡ 8 * b + f + (i - 8 * a) = omega arith in
            let lm8 : i - 8 * a < 8 * length mid = omega arith in
            ap (λ m. bit_at m (i % 8) == 1) (in_mid xs ys a n (i / 8) h ly (omega arith) (omega arith))
            ∙ (sym here
            ∙ (ap (λ (zs : List ℕ). bit zs (i - 8 * a)) e
            ∙ (bit-overlay mid g (i - 8 * a) lm8
            ∙ (ap (λ (o : Option Bool). unwrap_or o (bit mid (i - 8 * a))) (if_true (within 0 (8 * n) (i - 8 * a)) (Some (bit part (f + (i - 8 * a - 0)))) None (within_true 0 (8 * n) (i - 8 * a) (omega arith) (omega arith)))
            ∙ (ap (bit part) z
            ∙ (bit_part src part b (f + (i - 8 * a)) other
            ∙ (ap (bit src) w
            ∙ sym (bit-overlay xs t i lx ∙ ap (λ (o : Option Bool). unwrap_or o (bit xs i)) (if_true (within (8 * a) (8 * n) i) (Some (bit src (8 * b + f + (i - 8 * a)))) None (within_true (8 * a) (8 * n) i x y))))))))))
        | inr y ↦ kept (within_above (8 * a) (8 * n) i y) (behind_mid xs ys a n (i / 8) h ly (omega arith))
      ]
    ])
