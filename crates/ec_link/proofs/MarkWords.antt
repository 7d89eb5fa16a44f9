-- Marks as bits of words.
use Rattle.std.proofs.Common.{◌≡◌, ◌≢◌, ℕ, ◌+◌, ◌-◌, ◌*◌, ◌/◌, ◌%◌, ◌^◌, ◌<◌, ◌≤◌, ◌||◌, ◌==◌, not, ltb, leb, Bool, true, false, List, length, get_or, set, min, bit_and, bit_or, refl, sym, ap, ◌∙◌, subst, arith, inl, inr, get_or-set_same, get_or-set_other, pow_pos}
use Rattle.std.specs.Int.{bit_at, w64, trailing_zeros}
use Rattle.std.proofs.lemmas.Bool.{cases_Bool, cases_lt, cases_eq, false≢true, eq-eqb, eqb-true}
use Rattle.std.proofs.lemmas.Bool.Decides.{nat_tests}
use Rattle.std.proofs.lemmas.Nat.{shr_split, and_le_r}
use Rattle.std.proofs.lemmas.Nat.Bits.{bit_at-lt, bit_at-zero, bit_at_and, bit_at_or, bit_at_ones, bit_at_ones_above, bit_at_cat_low, bit_at_cat_high, bit_at-trailing_zeros, ones_shr}
use Rattle.ec_bits.specs.Bits.{within}
use Rattle.ec_link.proofs.Basics.{or_false, or_left, or_right}
use Rattle.ec_link.specs.Marks.{is_set, is_marked, IsMask, Marks}

-- ---- the mask

bit_at-low : (x i : ℕ) → i < 64 → bit_at (x % 2 ^ 64) i ≡ bit_at x i
bit_at-low x i h = sym (bit_at_cat_low (x / 2 ^ 64) 64 (x % 2 ^ 64) i h) ∙ ap (λ (n : ℕ). bit_at n i) (shr_split x 64)

up_low : (a s i : ℕ) → i < 64 → i < s → bit_at (a * 2 ^ s % 2 ^ 64) i ≡ 0
up_low a s i h l =
    let z : a * 2 ^ s ≡ a * 2 ^ s + 0 = omega arith in
    bit_at-low (a * 2 ^ s) i h ∙ ap (λ (n : ℕ). bit_at n i) z ∙ bit_at_cat_low a s 0 i l ∙ bit_at-zero i

up_high : (a s i : ℕ) → i < 64 → s ≤ i → bit_at (a * 2 ^ s % 2 ^ 64) i ≡ bit_at a (i - s)
up_high a s i h l =
    let z : a * 2 ^ s ≡ a * 2 ^ s + 0 = omega arith in
    bit_at-low (a * 2 ^ s) i h ∙ ap (λ (n : ℕ). bit_at n i) z ∙ bit_at_cat_high a s 0 i (pow_pos s) l

pub mask_has : (low count : ℕ) → 0 < count → low + count ≤ 64 → IsMask low count ((2 ^ 64 - 1) / 2 ^ (64 - count) * 2 ^ low % 2 ^ 64)
mask_has low count some inside i small =
    let e : 64 - (64 - count) ≡ count = omega arith in
    let ones : (2 ^ 64 - 1) / 2 ^ (64 - count) ≡ 2 ^ count - 1 = ones_shr 64 (64 - count) (omega arith) ∙ ap (λ (m : ℕ). 2 ^ m - 1) e in
    elim (cases_lt i low) [
      | inl lt ↦
          let b : bit_at ((2 ^ 64 - 1) / 2 ^ (64 - count) * 2 ^ low % 2 ^ 64) i ≡ 0 = up_low ((2 ^ 64 - 1) / 2 ^ (64 - count)) low i small lt in
          let w : within low count i ≡ false = grind (arith, nat_tests, lt) in
          ap (λ (m : ℕ). m == 1) b ∙ sym w
      | inr ge ↦
          let b : bit_at ((2 ^ 64 - 1) / 2 ^ (64 - count) * 2 ^ low % 2 ^ 64) i ≡ bit_at (2 ^ count - 1) (i - low)
          = up_high ((2 ^ 64 - 1) / 2 ^ (64 - count)) low i small ge ∙ ap (λ (m : ℕ). bit_at m (i - low)) ones in
          elim (cases_lt i (low + count)) [
            | inl lt ↦
                let w : within low count i ≡ true = grind (arith, nat_tests, ge, lt) in
                ap (λ (m : ℕ). m == 1) (b ∙ bit_at_ones count (i - low) (omega arith)) ∙ sym w
            | inr far ↦
                let w : within low count i ≡ false = grind (arith, nat_tests, far) in
                ap (λ (m : ℕ). m == 1) (b ∙ bit_at_ones_above count (i - low) (omega arith)) ∙ sym w
          ]
    ]

-- ---- bits of one word

-- a bit is 0 or 1
pub data Bit (b : ℕ) : Type 0 where
  Clear : b ≡ 0 → Bit b
  Set : b ≡ 1 → Bit b

bit_is : (n i : ℕ) → Bit (bit_at n i)
bit_is n i = elim (cases_eq (bit_at n i) 0) [ inl z ↦ Clear z | inr ne ↦ Set (let h = bit_at-lt n i in omega arith) ]

set_is : (n i : ℕ) → is_set n i ≡ true → bit_at n i ≡ 1
set_is n i h = eqb-true (bit_at n i) 1 h

clear_is : (n i : ℕ) → is_set n i ≡ false → bit_at n i ≡ 0
clear_is n i h = elim (bit_is n i) [ Clear z ↦ z | Set s ↦ absurd (false≢true (sym h ∙ ap (λ (m : ℕ). m == 1) s)) ]

or_sets : (a b i : ℕ) → is_set (bit_or a b) i ≡ (is_set a i || is_set b i)
or_sets a b i = elim (bit_is a i) [
  | Clear x ↦ elim (bit_is b i) [
    | Clear y ↦ rw (bit_at_or a b i, x, y) refl
    | Set y ↦ rw (bit_at_or a b i, x, y) refl
  ]
  | Set x ↦ elim (bit_is b i) [
    | Clear y ↦ rw (bit_at_or a b i, x, y) refl
    | Set y ↦ rw (bit_at_or a b i, x, y) refl
  ]
]

-- words without a bit in common, bit by bit
apart_clear : (a b i : ℕ) → bit_and a b ≡ 0 → is_set b i ≡ true → is_set a i ≡ false
apart_clear a b i none h =
    let s : bit_at b i ≡ 1 = set_is b i h in
    let z : min (bit_at a i) (bit_at b i) ≡ 0 = sym (bit_at_and a b i) ∙ ap (λ (m : ℕ). bit_at m i) none ∙ bit_at-zero i in
    let c : bit_at a i ≡ 0 = omega arith in
    ap (λ (m : ℕ). m == 1) c

-- a bit that two words have in common
pub record Common (a b : ℕ) : Type 0 where
  pub i : ℕ
  pub small : i < 64
  pub one : is_set a i ≡ true
  pub two : is_set b i ≡ true

in_common : (a b : ℕ) → bit_and a b < 2 ^ 64 → bit_and a b ≢ 0 → Common a b
in_common a b small some =
    let n : ℕ = bit_and a b in
    let t = bit_at-trailing_zeros w64 n (omega arith) small in
    let i : ℕ = trailing_zeros w64 n in
    let m : min (bit_at a i) (bit_at b i) ≡ 1 = sym (bit_at_and a b i) ∙ t.1 in
    let x = bit_at-lt a i in
    let y = bit_at-lt b i in
    let p : bit_at a i ≡ 1 = omega arith in
    let q : bit_at b i ≡ 1 = omega arith in
    record { i = i; small = t.0; one = ap (λ (k : ℕ). k == 1) p; two = ap (λ (k : ℕ). k == 1) q }

-- ---- the marks

-- number x has its mark in word k
here : (xs : List ℕ) (x k i : ℕ) → x ≡ 64 * k + i → i < 64 → is_marked xs x ≡ is_set (get_or xs k 0) i
here xs x k i e h =
    let q : x / 64 ≡ k = omega arith in
    let r : x % 64 ≡ i = omega arith in
    ap (λ (j : ℕ). is_set (get_or xs j 0) (x % 64)) q ∙ ap (is_set (get_or xs k 0)) r

within_word : (from count x : ℕ) → x / 64 ≡ from / 64 → within (from % 64) count (x % 64) ≡ within from count x
within_word from count x same =
    elim (cases_lt x from) [
      | inl lt ↦
          let a : leb from x ≡ false = grind (arith, nat_tests, lt) in
          let l : x % 64 < from % 64 = omega arith in
          let b : leb (from % 64) (x % 64) ≡ false = grind (arith, nat_tests, l) in
          rw (a, b) refl
      | inr ge ↦
          let a : leb from x ≡ true = grind (arith, nat_tests, ge) in
          let l : from % 64 ≤ x % 64 = omega arith in
          let b : leb (from % 64) (x % 64) ≡ true = grind (arith, nat_tests, l) in
          elim (cases_lt x (from + count)) [
            | inl lt ↦
                let c : ltb x (from + count) ≡ true = grind (arith, nat_tests, lt) in
                let m : x % 64 < from % 64 + count = omega arith in
                let d : ltb (x % 64) (from % 64 + count) ≡ true = grind (arith, nat_tests, m) in
                rw (a, b, c, d) refl
            | inr far ↦
                let c : ltb x (from + count) ≡ false = grind (arith, nat_tests, far) in
                let m : from % 64 + count ≤ x % 64 = omega arith in
                let d : ltb (x % 64) (from % 64 + count) ≡ false = grind (arith, nat_tests, m) in
                rw (a, b, c, d) refl
          ]
    ]

within_other : (from count x : ℕ) → from % 64 + count ≤ 64 → x / 64 ≢ from / 64 → within from count x ≡ false
within_other from count x inside ne =
    elim (cases_lt x from) [
      | inl lt ↦ let a : leb from x ≡ false = grind (arith, nat_tests, lt) in rw a refl
      | inr ge ↦ let far : from + count ≤ x = omega arith in let a : leb from x ≡ true = grind (arith, nat_tests, ge) in let b : ltb x (from + count) ≡ false = grind (arith, nat_tests, far) in rw (a, b) refl
    ]

-- one word with a mask's bits set besides
pub marks_word : (old : List ℕ) (from count word mask : ℕ) → 0 < count → from % 64 + count ≤ 64 → from + count ≤ 64 * length old → word ≡ get_or old (from / 64) 0 → IsMask (from % 64) count mask
    → (found : Bool) → (found ≡ true → Common word mask) → (found ≡ false → bit_and word mask ≡ 0) → Marks from count old (set old (from / 64) (bit_or word mask)) found
marks_word old from count word mask some inside there is has found hit miss =
    let k : ℕ = from / 64 in
    let low : ℕ = from % 64 in
    let lt : k < length old = omega arith in
    record {
      hit = λ e.
          let c = hit e in
          let w : within low count c.i ≡ true = sym (has c.i c.small) ∙ c.two in
          let a : low ≤ c.i = grind (arith, nat_tests, w) in
          let b : c.i < low + count = grind (arith, nat_tests, w) in
          record {
            j = c.i - low;
            below = omega arith;
            marked = here old (from + (c.i - low)) k c.i (omega arith) c.small ∙ ap (λ (n : ℕ). is_set n c.i) (sym is) ∙ c.one;
          };
      miss = λ e j b.
          let w : within low count (low + j) ≡ true = grind (arith, nat_tests, b) in
          here old (from + j) k (low + j) (omega arith) (omega arith) ∙ ap (λ (n : ℕ). is_set n (low + j)) (sym is)
          ∙ apart_clear word mask (low + j) (miss e) (has (low + j) (omega arith) ∙ w);
      marked = λ x. elim (cases_eq (x / 64) k) [
        | inl same ↦
            let e : x ≡ 64 * k + x % 64 = omega arith in
            let small : x % 64 < 64 = omega arith in
            let w : within low count (x % 64) ≡ within from count x = within_word from count x same in
            here (set old k (bit_or word mask)) x k (x % 64) e small ∙ ap (λ (n : ℕ). is_set n (x % 64)) (get_or-set_same old k (bit_or word mask) 0 lt)
            ∙ or_sets word mask (x % 64)
            ∙ ap (λ (b : Bool). b || is_set mask (x % 64)) (ap (λ (n : ℕ). is_set n (x % 64)) is ∙ sym (here old x k (x % 64) e small))
            ∙ ap (λ (b : Bool). is_marked old x || b) (has (x % 64) small ∙ w)
        | inr ne ↦
            let w : within from count x ≡ false = within_other from count x inside ne in
            ap (λ (n : ℕ). is_set n (x % 64)) (get_or-set_other old k (x / 64) (bit_or word mask) 0 ne) ∙ sym (ap (λ (b : Bool). is_marked old x || b) w ∙ or_false (is_marked old x))
      ];
    }

-- two runs one behind the other
within_both : (from head count x : ℕ) → head ≤ count → (within from head x || within (from + head) (count - head) x) ≡ within from count x
within_both from head count x le =
    elim (cases_lt x from) [
      | inl lt ↦
          let a : leb from x ≡ false = grind (arith, nat_tests, lt) in
          let b : leb (from + head) x ≡ false = grind (arith, nat_tests, lt) in
          rw (a, b) refl
      | inr ge ↦
          let a : leb from x ≡ true = grind (arith, nat_tests, ge) in
          elim (cases_lt x (from + head)) [
            | inl near ↦
                let b : ltb x (from + head) ≡ true = grind (arith, nat_tests, near) in
                let c : ltb x (from + count) ≡ true = grind (arith, nat_tests, near, le) in
                rw (a, b, c) refl
            | inr past ↦
                let b : ltb x (from + head) ≡ false = grind (arith, nat_tests, past) in
                let c : leb (from + head) x ≡ true = grind (arith, nat_tests, past) in
                elim (cases_lt x (from + count)) [
                  | inl lt ↦
                      let d : ltb x (from + count) ≡ true = grind (arith, nat_tests, lt) in
                      let e : ltb x (from + head + (count - head)) ≡ true = grind (arith, nat_tests, lt, le) in
                      rw (a, b, c, d, e) refl
                  | inr far ↦
                      let d : ltb x (from + count) ≡ false = grind (arith, nat_tests, far) in
                      let e : ltb x (from + head + (count - head)) ≡ false = grind (arith, nat_tests, far, le) in
                      rw (a, b, c, d, e) refl
                ]
          ]
    ]

not_not : (a : Bool) → not a ≡ false → a ≡ true
not_not true h = refl
not_not false h = absurd (false≢true (sym h))

or_assoc : (a b c : Bool) → ((a || b) || c) ≡ (a || (b || c))
or_assoc true b c = refl
or_assoc false b c = refl

right_true : (a b : Bool) → a ≡ false → (a || b) ≡ true → b ≡ true
right_true true b f h = absurd (false≢true (sym f))
right_true false b f h = h

pub marks_both : (old mid new : List ℕ) (from head count : ℕ) (found again : Bool) → head ≤ count → Marks from head old mid found → Marks (from + head) (count - head) mid new again → Marks from count old new (found || again)
marks_both old mid new from head count found again le p q = record {
  hit = λ e. elim (cases_Bool found) [
    | inl y ↦ let h = p.hit y in record { j = h.j; below = let b = h.below in omega arith; marked = h.marked }
    | inr n ↦
        let h = q.hit (right_true found again n e) in
        let b : h.j < count - head = h.below in
        let is : from + head + h.j ≡ from + (head + h.j) = omega arith in
        let out : within from head (from + (head + h.j)) ≡ false = grind (arith, nat_tests) in
        record {
          j = head + h.j;
          below = omega arith;
          marked = sym (or_false (is_marked old (from + (head + h.j)))) ∙ sym (ap (λ (c : Bool). is_marked old (from + (head + h.j)) || c) out) ∙ sym (p.marked (from + (head + h.j)))
              ∙ sym (ap (is_marked mid) is) ∙ h.marked;
        }
  ];
  miss = λ e j b. elim (cases_lt j head) [
    | inl lt ↦ p.miss (or_left found again e) j lt
    | inr ge ↦
        let is : from + head + (j - head) ≡ from + j = omega arith in
        let m : is_marked mid (from + j) ≡ false = sym (ap (is_marked mid) is) ∙ q.miss (or_right found again e) (j - head) (omega arith) in
        or_left (is_marked old (from + j)) (within from head (from + j)) (sym (p.marked (from + j)) ∙ m)
  ];
  marked = λ x. q.marked x ∙ ap (λ (b : Bool). b || within (from + head) (count - head) x) (p.marked x)
      ∙ or_assoc (is_marked old x) (within from head x) (within (from + head) (count - head) x) ∙ ap (λ (b : Bool). is_marked old x || b) (within_both from head count x le);
}

pub marks_one : (old new : List ℕ) (from head count : ℕ) (found : Bool) → head ≡ count → Marks from head old new found → Marks from count old new found
marks_one old new from head count found e m = subst (λ (n : ℕ). Marks from n old new found) e m

-- ---- what the code computes

pub marks_word_test : (old : List ℕ) (from count mask : ℕ) → 0 < count → from % 64 + count ≤ 64 → from + count ≤ 64 * length old → mask < 2 ^ 64 → IsMask (from % 64) count mask
    → Marks from count old (set old (from / 64) (bit_or (get_or old (from / 64) 0) mask)) (not (bit_and (get_or old (from / 64) 0) mask == 0))
marks_word_test old from count mask some inside there small has =
    let word : ℕ = get_or old (from / 64) 0 in
    let both : ℕ = bit_and word mask in
    let le : both ≤ mask = and_le_r word mask in
    marks_word old from count word mask some inside there refl has (not (both == 0))
    (λ e. in_common word mask (omega arith) (λ z. false≢true (sym (ap not (eq-eqb both 0 z)) ∙ e)))
    (λ e. eqb-true both 0 (not_not (both == 0) e))

pub marks_or : (old mid new : List ℕ) (from head count : ℕ) (found again b : Bool) → found ≡ b → head ≤ count → Marks from head old mid found → Marks (from + head) (count - head) mid new again → Marks from count old new (b || again)
marks_or old mid new from head count found again b is le p q = subst (λ (x : Bool). Marks from count old new (x || again)) is (marks_both old mid new from head count found again le p q)
