-- The number that a variable's value is printed as is read as that value.
use Rattle.std.proofs.Common.{◌≡◌, ◌∙◌, ℕ, zero, suc, ◌+◌, ◌-◌, ◌*◌, ◌<◌, ◌≤◌, ◌==◌, ◌^◌, min, ℤ, pos, negsuc, ◌-ℤ◌, List, Bool, true, false, nat_lt, nat_le, is_some, Some, slice_get, codes, if◌then◌else◌, refl, sym, ap, arith}
use Rattle.std.specs.Fmt.{decimal, signed_decimal}
use Rattle.std.proofs.Math.Nat.{pow-suc}
use Rattle.std.proofs.lemmas.Bool.Decides.{nat_tests}
use Rattle.ec_table.specs.Contents.{Contents}
use Rattle.ec_table.specs.Numbers.{half, number_at, number_in}
use Rattle.ec_script.specs.declared.expectation.Expectation.TheVariants as expects
use Rattle.ec_script.specs.declared.line.LineAction.{LineAction}
use Rattle.ec_script.specs.declared.line.LineAction.TheVariants.{Set, Input, Expect}
use Rattle.ec_script.specs.declared.read.Reading.TheVariants as reading
use Rattle.ec_script.specs.declared.value.WrittenValue.TheVariants.{Number}
use Rattle.ec_script.specs.Operands.{value_for}
use Rattle.ec_script.specs.Scripts.{reading_of}
use Rattle.ec_script.specs.Words.{Text, is_range, plain_of, value_of}
use Rattle.ec_script.specs.Writing.{PrintedIsRead, joined_words, once, row_bits}
use Rattle.ec_script.proofs.Numbers.{is_true}
use Rattle.ec_script.proofs.Ranges.{is_undotted, no_range}
use Rattle.ec_script.proofs.ReadingBack.{IsActionBack, alone_back, input_back, line_with, once_back, set_acts, set_back, text_back, usual, value_of_name}
use Rattle.ec_script.proofs.Verbs.{differ}
use Rattle.ec_script.proofs.WrittenWords.{Row, and, below_64, bits_hold, is_word, no_prefix, no_sign, number_back, number_digits, number_word, row_at, undotted, value_back}

-- ---- a value's number

-- half of all values, as numbers are printed and read
halves : (bits : ℕ) → 1 ≤ bits → bits ≤ 64 → (half bits ≡ 2 ^ (bits - 1)) × (2 ^ bits ≡ 2 * half bits)
halves zero some few = absurd (omega arith)
halves (suc k) some few =
    let least : min (suc k - 1) 63 ≡ suc k - 1 = omega arith in
    let h : half (suc k) ≡ 2 ^ (suc k - 1) = ap (λ (n : ℕ). 2 ^ n) least in
    let one_less : 2 ^ (suc k - 1) ≡ 2 ^ k = ap (λ (n : ℕ). 2 ^ n) (omega arith) in
    (h, omega (arith, h, one_less, pow-suc 2 k))

-- a value of the lower half
low_back : (bits x : ℕ) → x < 2 ^ 64 → nat_le (2 ^ (bits - 1)) x ≡ false → value_of true bits (decimal x) ≡ Some (Number x)
unfolding value_of plain_of
low_back bits x h low = let d = number_digits x h in rw (no_sign (decimal x) d, no_prefix (decimal x) d, number_back x h, low) refl

below_zero : (x y : ℕ) → x < y → pos x -ℤ pos y ≡ negsuc (y - suc x)
below_zero x zero h = absurd (omega arith)
below_zero x (suc m) h = let less : nat_lt x (suc m) ≡ true = is_true x (suc m) h in rw less refl

-- what a value of the upper half is more than the number that it stands for
abbrev all : ℕ → ℕ
all bits = 2 * half bits

within : (bits x : ℕ) → 1 ≤ bits → bits ≤ 64 → x < 2 ^ bits → x < all bits
within bits x some few h = let two = (halves bits some few).1 in omega (arith, two, h)

-- a value of the upper half
high_back : (bits x k : ℕ) → 1 ≤ bits → bits ≤ 64 → x < 2 ^ bits → half bits ≤ x → suc k + x ≡ all bits → value_of true bits (signed_decimal (negsuc k)) ≡ Some (Number x)
unfolding value_of
high_back bits x k some few h high sum =
    let one : half bits ≡ 2 ^ (bits - 1) = (halves bits some few).0 in
    let two : 2 ^ bits ≡ 2 * half bits = (halves bits some few).1 in
    let small : x < 2 ^ 64 = below_64 x bits h few in
    let low : suc k < 2 ^ 64 = omega (arith, sum, high, small) in
    let le : suc k ≤ 2 ^ (bits - 1) = omega (arith, sum, high, one) in
    let most : nat_le (suc k) (2 ^ (bits - 1)) ≡ true = grind (arith, nat_tests) in
    let back : 2 ^ bits - suc k ≡ x = omega (arith, sum, two) in
    let some_of_it : (suc k == 0) ≡ false = grind (arith, nat_tests) in
    rw (number_back (suc k) low, most, some_of_it, back) refl

signed_back : (bits x : ℕ) (b : Bool) → nat_le (half bits) x ≡ b → 1 ≤ bits → bits ≤ 64 → x < 2 ^ bits
    → value_of true bits (signed_decimal (if b then pos x -ℤ pos (all bits) else pos x)) ≡ Some (Number x)
signed_back bits x false is some few h =
    let one = (halves bits some few).0 in
    let low : nat_le (2 ^ (bits - 1)) x ≡ false = ap (λ (n : ℕ). nat_le n x) (sym one) ∙ is in
    low_back bits x (below_64 x bits h few) low
signed_back bits x true is some few h =
    let high : half bits ≤ x = grind (arith, nat_tests) in
    let less = within bits x some few h in
    rw (below_zero x (all bits) less) (high_back bits x (all bits - suc x) some few h high (omega (arith, less)))

printed_back : (signed : Bool) (bits x : ℕ) → 1 ≤ bits → bits ≤ 64 → x < 2 ^ bits → value_of signed bits (signed_decimal (number_in signed bits x)) ≡ Some (Number x)
printed_back false bits x some few h = value_back false bits x (below_64 x bits h few)
printed_back true bits x some few h = signed_back bits x (nat_le (half bits) x) refl some few h

-- ---- words

abbrev magnitude : ℤ → ℕ
magnitude (pos n) = n
magnitude (negsuc n) = suc n

signed_plain : (z : ℤ) → magnitude z < 2 ^ 64 → is_word (signed_decimal z) ≡ true
signed_plain (pos n) h = number_word n h
signed_plain (negsuc n) h = and _ _ refl (number_word (suc n) h)

signed_undotted : (z : ℤ) → magnitude z < 2 ^ 64 → is_undotted (signed_decimal z) ≡ true
signed_undotted (pos n) h = undotted n h
signed_undotted (negsuc n) h = and _ _ refl (undotted (suc n) h)

small_if : (bits x : ℕ) (b : Bool) → nat_le (half bits) x ≡ b → 1 ≤ bits → bits ≤ 64 → x < 2 ^ bits → magnitude (if b then pos x -ℤ pos (all bits) else pos x) < 2 ^ 64
small_if bits x false is some few h = below_64 x bits h few
small_if bits x true is some few h =
    let high : half bits ≤ x = grind (arith, nat_tests) in
    let less = within bits x some few h in
    let small : x < 2 ^ 64 = below_64 x bits h few in
    let low : suc (all bits - suc x) < 2 ^ 64 = omega (arith, less, high, small) in
    rw (below_zero x (all bits) less) low

number_small : (signed : Bool) (bits x : ℕ) → 1 ≤ bits → bits ≤ 64 → x < 2 ^ bits → magnitude (number_in signed bits x) < 2 ^ 64
number_small false bits x some few h = below_64 x bits h few
number_small true bits x some few h = small_if bits x (nat_le (half bits) x) refl some few h

-- ---- lines

abbrev printed : Contents → ℕ → ℕ → Text
printed t v x = signed_decimal (number_at t v x)

word_small : (t : Contents) (v x : ℕ) → Row t v → x < 2 ^ row_bits (slice_get t.variables v) → magnitude (number_at t v x) < 2 ^ 64
word_small t v x r h = rw r.at (number_small r.row.signed r.row.bits x r.some r.few (bits_hold t v x r h))

word_back : (t : Contents) (v x : ℕ) → Row t v → x < 2 ^ row_bits (slice_get t.variables v) → value_for t.variables v (printed t v x) ≡ Some (Number x)
word_back t v x r h = rw r.at (printed_back r.row.signed r.row.bits x r.some r.few (bits_hold t v x r h))

line_back : (t : Contents) (n : ℕ) (action : LineAction) (words : List Text) → IsActionBack t action words → reading_of t n (joined_words words) ≡ reading.Line (once n action)
line_back t n action words b = text_back t (line_with n 1 false action) words (once_back t n 1 false action words refl (alone_back t n action words b))

pub printed_is_read : PrintedIsRead
printed_is_read t n v x sound there h =
    let r = row_at t v sound there in
    let word = printed t v x in
    let plain : is_word word ≡ true = signed_plain (number_at t v x) (word_small t v x r h) in
    let one : is_range word ≡ false = ap (λ o. is_some o) (no_range word (signed_undotted (number_at t v x) (word_small t v x r h))) in
    let back = word_back t v x r h in (
      line_back t n (Set v x) _ (set_acts t _ _ _ (set_back t v word (Number x) r plain back)),
      line_back t n (Input v x) _ (usual t (codes "in") _ _ (input_back t v word (Number x) r plain back) refl refl refl refl refl refl refl refl),
      λ free. line_back t n (Expect (expects.Is v x)) _
          (usual t (codes "expect") _ _ (value_of_name t v word (Number x) r free plain one back) refl refl refl (rw (differ _ _ free.0) refl) refl refl refl refl),
    )
