-- What is written for a line is read back.
use Rattle.std.proofs.Common.{◌≡◌, ◌∙◌, ℕ, ◌+◌, ◌-◌, ◌*◌, ◌/◌, ◌%◌, ◌<◌, ◌≤◌, ◌^◌, ◌==◌, ◌||◌, List, [], ◌∷◌, length, Bool, true, false, nat_lt, Option, Some, None, is_some, bit_and, slice_get, codes, option_and_then, option_map, if◌then◌else◌, refl, sym, ap, arith}
use Rattle.std.specs.Fmt.{decimal}
use Rattle.std.specs.List.{list_all}
use Rattle.std.specs.Char.{digit_char, digit_value, is_ascii_digit}
use Rattle.std.specs.Str.{bytes_eq}
use Rattle.std.specs.Str.Parse.{digits_value}
use Rattle.std.proofs.lemmas.Bool.Decides.{nat_tests}
use Rattle.std.proofs.lemmas.Str.{digit_value-digit_char}
use Rattle.ec_al.specs.declared.state.State.{State}
use Rattle.ec_al.specs.declared.state.State.TheVariants.{Init, PreOp, SafeOp, Op}
use Rattle.ec_table.specs.Contents.{Contents}
use Rattle.ec_table.specs.Sound as table
use Rattle.ec_table.specs.declared.rows.VariableRow.{VariableRow}
use Rattle.ec_script.specs.declared.expectation.Expectation.{Expectation}
use Rattle.ec_script.specs.declared.expectation.Expectation.TheVariants as expects
use Rattle.ec_script.specs.declared.forms.ExpectForm.{ExpectForm}
use Rattle.ec_script.specs.declared.forms.ExpectForm.TheVariants as expected
use Rattle.ec_script.specs.declared.forms.Form.{Form}
use Rattle.ec_script.specs.declared.forms.Form.TheVariants as form
use Rattle.ec_script.specs.declared.line.LineAction.{LineAction}
use Rattle.ec_script.specs.declared.line.LineAction.TheVariants.{Start, Set, Begin, Pass, Lose, LosePart, Return, Close, Serve, Put, Get, Fail, Reset, Input, Never, Expect, Ready, Cycle, Within, Show, ShowVariable, Output, Report, States, Stop, Served}
use Rattle.ec_script.specs.declared.line.Line.{Line}
use Rattle.ec_script.specs.declared.line.Task.TheVariants as task
use Rattle.ec_script.specs.declared.read.Reading.TheVariants as reading
use Rattle.ec_script.specs.declared.value_test.Comparison.{Comparison}
use Rattle.ec_script.specs.declared.value_test.Comparison.TheVariants.{Equal, Unequal, Less, LessEqual, Greater, GreaterEqual}
use Rattle.ec_script.specs.declared.value_test.ValueTest.{ValueTest}
use Rattle.ec_script.specs.declared.value_test.ValueTest.TheVariants.{Compared, Masked, Between}
use Rattle.ec_script.specs.declared.value.WrittenValue.{WrittenValue}
use Rattle.ec_script.specs.declared.value.WrittenValue.TheVariants.{Number, Outside}
use Rattle.ec_script.specs.Actions.{action_of_form, action_of_words, expectation_of_form, input_action, set_action, test_expected, value_expected}
use Rattle.ec_script.specs.Forms.{form_of}
use Rattle.ec_script.specs.Operands.{assignment_at, bounds_for, held_for, mask_for, slave_in, state_named, value_for, variable_named}
use Rattle.ec_script.specs.Scripts.{done_times, found_line, line_of_words, line_on, reading_of, reading_without, repeated_line}
use Rattle.ec_script.specs.Tasks.{actions_of, all_or_one, alone, alone_or, denied_words, each_name, each_setting, echoed, is_unsettable, step, steps_if, steps_of, tasks_of, within_if}
use Rattle.ec_script.specs.Tests.{between_test, compared_test, masked_test}
use Rattle.ec_script.specs.Words.{Text, bounds_of, byte_of, code_of, hex_of, is_range, number_of, uncommented}
use Rattle.ec_script.specs.Writing.{IsActionOf, IsCode, IsExpectationOf, IsNumber, IsOtherWord, IsTestOf, LinesReadBack, below_all, code_word, code_words, joined_words, masked_word, number_words, range_word, row_bits, row_name, sign_word, state_name, taken_word, test_words, words_expecting, words_for, words_for_step, value_word}
use Rattle.ec_script.proofs.Numbers.{is_true}
use Rattle.ec_script.proofs.Ranges.{range_is}
use Rattle.ec_script.proofs.Verbs.{differ}
use Rattle.ec_script.proofs.WrittenWords.{all_joined, and, are_words, below_for_back, byte_back, has_sign, held_back, is_plain, is_word, mask_back, no_bounds, no_sign_word, none_marked, number_back, number_digits, number_word, plain_by_digit, Row, row_at, small, split_back, times_back, value_for_back, value_plain, value_undotted, whole, word_holds}

-- ---- what can be read back

pub record IsBack (t : Contents) (action : LineAction) (words : List Text) : Type 0 where
  verb : Text
  rest : List Text
  are : words ≡ verb ∷ rest
  some : nat_lt 0 (length verb) ≡ true
  other : bytes_eq verb (codes "repeat") ≡ false
  plain : are_words (verb ∷ rest) ≡ true
  reads : action_of_words t (verb ∷ rest) ≡ Some action

-- words that fit this form, and stand for this action by it
back : (t : Contents) (f : Form) (action : LineAction) (verb : Text) (rest : List Text) → nat_lt 0 (length verb) ≡ true → bytes_eq verb (codes "repeat") ≡ false
    → is_word verb ≡ true → are_words rest ≡ true → form_of (verb ∷ rest) ≡ Some f → action_of_form t (verb ∷ rest) f ≡ Some action → IsBack t action (verb ∷ rest)
back t f action verb rest some other plain others fits reads = record {
  verb = verb;
  rest = rest;
  are = refl;
  some = some;
  other = other;
  plain = and _ _ plain others;
  reads = ap (option_and_then (action_of_form t (verb ∷ rest))) fits ∙ reads;
}

-- ---- a number, and a slave

one_word : (word : Text) → is_word word ≡ true → are_words (word ∷ []) ≡ true
one_word word plain = and _ _ plain refl

two_words : (a b : Text) → is_word a ≡ true → is_word b ≡ true → are_words (a ∷ b ∷ []) ≡ true
two_words a b pa pb = and _ _ pa (one_word b pb)

place_back : (t : Contents) (f : Form) (verb : Text) (n : ℕ) (action : ℕ → LineAction) → nat_lt 0 (length verb) ≡ true → bytes_eq verb (codes "repeat") ≡ false → is_word verb ≡ true
    → n < 2 ^ 64 → form_of (verb ∷ decimal n ∷ []) ≡ Some f → action_of_form t (verb ∷ decimal n ∷ []) f ≡ option_and_then (λ k. Some (action k)) (number_of (decimal n))
    → IsBack t (action n) (verb ∷ decimal n ∷ [])
place_back t f verb n action some other plain h fits e =
    back t f (action n) verb _ some other plain (one_word (decimal n) (number_word n h)) fits (e ∙ ap (option_and_then (λ k. Some (action k))) (number_back n h))

slave_back : (t : Contents) (s : ℕ) → s < 2 ^ 64 → slave_in t (decimal s) ≡ Some s
unfolding slave_in
slave_back t s h = rw (number_digits s h, number_back s h) refl

by_slave : (t : Contents) (f : Form) (verb : Text) (n : ℕ) (action : ℕ → LineAction) → nat_lt 0 (length verb) ≡ true → bytes_eq verb (codes "repeat") ≡ false → is_word verb ≡ true
    → n < 2 ^ 64 → form_of (verb ∷ decimal n ∷ []) ≡ Some f → action_of_form t (verb ∷ decimal n ∷ []) f ≡ option_and_then (λ k. Some (action k)) (slave_in t (decimal n))
    → IsBack t (action n) (verb ∷ decimal n ∷ [])
by_slave t f verb n action some other plain h fits e =
    back t f (action n) verb _ some other plain (one_word (decimal n) (number_word n h)) fits (e ∙ ap (option_and_then (λ k. Some (action k))) (slave_back t n h))

get_back : (t : Contents) (s i : ℕ) → s < 2 ^ 64 → i < 2 ^ 64 → IsBack t (Get s i) (codes "get" ∷ decimal s ∷ decimal i ∷ [])
unfolding form_of
get_back t s i h g =
    back t form.Get (Get s i) (codes "get") _ refl refl refl (two_words (decimal s) (decimal i) (number_word s h) (number_word i g)) refl
    (ap (option_and_then (λ s. option_and_then (λ i. Some (Get s i)) (number_of (decimal i)))) (slave_back t s h)
    ∙ ap (option_and_then (λ i. Some (Get s i))) (number_back i g))

put_back : (t : Contents) (s i x : ℕ) → s < 2 ^ 64 → i < 2 ^ 64 → x < 256 → IsBack t (Put s i x) (codes "put" ∷ decimal s ∷ decimal i ∷ decimal x ∷ [])
unfolding form_of
put_back t s i x h g b =
    back t form.Put (Put s i x) (codes "put") _ refl refl refl (and _ _ (number_word s h) (two_words (decimal i) (decimal x) (number_word i g) (number_word x (small x b)))) refl
    (ap (option_and_then (λ s. option_and_then (λ i. option_and_then (λ x. Some (Put s i x)) (byte_of (decimal x))) (number_of (decimal i)))) (slave_back t s h)
    ∙ (ap (option_and_then (λ i. option_and_then (λ x. Some (Put s i x)) (byte_of (decimal x)))) (number_back i g)
    ∙ ap (option_and_then (λ x. Some (Put s i x))) (byte_back x b)))

lose_part_back : (t : Contents) (n k : ℕ) → n < 2 ^ 64 → k < 2 ^ 64 → IsBack t (LosePart n k) (codes "lose" ∷ decimal n ∷ codes "part" ∷ decimal k ∷ [])
unfolding form_of
lose_part_back t n k h g =
    back t form.LosePart (LosePart n k) (codes "lose") _ refl refl refl (and _ _ (number_word n h) (two_words (codes "part") (decimal k) refl (number_word k g))) refl
    (ap (option_and_then (λ n. option_and_then (λ k. Some (LosePart n k)) (number_of (decimal k)))) (number_back n h)
    ∙ ap (option_and_then (λ k. Some (LosePart n k))) (number_back k g))

-- ---- a variable and a value

abbrev name_of : Contents → ℕ → Text
name_of t v = row_name (slice_get t.variables v)

assigned : (t : Contents) (verb : Text) (v : ℕ) (word : Text) (value : WrittenValue) → Row t v → value_for t.variables v word ≡ Some value
    → assignment_at t (verb ∷ name_of t v ∷ word ∷ []) 1 2 ≡ Some (v, value)
assigned t verb v word value r is =
    ap (option_and_then (λ k. option_and_then (λ x. Some (k, x)) (value_for t.variables k word))) r.named ∙ ap (option_and_then (λ x. Some (v, x))) is

assigning : (t : Contents) (f : Form) (verb : Text) (v : ℕ) (word : Text) (value : WrittenValue) (action : ℕ × WrittenValue → LineAction) → nat_lt 0 (length verb) ≡ true
    → bytes_eq verb (codes "repeat") ≡ false → is_word verb ≡ true → Row t v → is_word word ≡ true → value_for t.variables v word ≡ Some value
    → form_of (verb ∷ name_of t v ∷ word ∷ []) ≡ Some f
    → action_of_form t (verb ∷ name_of t v ∷ word ∷ []) f ≡ option_and_then (λ a. Some (action a)) (assignment_at t (verb ∷ name_of t v ∷ word ∷ []) 1 2)
    → IsBack t (action (v, value)) (verb ∷ name_of t v ∷ word ∷ [])
assigning t f verb v word value action some other plain r word_plain is fits e =
    back t f (action (v, value)) verb _ some other plain (two_words (name_of t v) word r.plain word_plain) fits
    (e ∙ ap (option_and_then (λ a. Some (action a))) (assigned t verb v word value r is))

pub set_back : (t : Contents) (v : ℕ) (word : Text) (value : WrittenValue) → Row t v → is_word word ≡ true → value_for t.variables v word ≡ Some value
    → IsBack t (set_action (v, value)) (codes "set" ∷ name_of t v ∷ word ∷ [])
unfolding form_of
set_back t v word value r plain is = assigning t form.Set (codes "set") v word value set_action refl refl refl r plain is refl refl

pub input_back : (t : Contents) (v : ℕ) (word : Text) (value : WrittenValue) → Row t v → is_word word ≡ true → value_for t.variables v word ≡ Some value
    → IsBack t (input_action (v, value)) (codes "in" ∷ name_of t v ∷ word ∷ [])
unfolding form_of
input_back t v word value r plain is = assigning t form.Input (codes "in") v word value input_action refl refl refl r plain is refl refl

output_back : (t : Contents) (v : ℕ) → Row t v → IsBack t (Output v) (codes "out" ∷ name_of t v ∷ [])
unfolding form_of
output_back t v r = back t form.Output (Output v) (codes "out") _ refl refl refl (one_word (name_of t v) r.plain) refl (ap (option_and_then (λ k. Some (Output k))) r.named)

show_back : (t : Contents) (v : ℕ) → Row t v → IsBack t (ShowVariable v) (codes "show" ∷ name_of t v ∷ [])
unfolding form_of
show_back t v r = back t form.ShowVariable (ShowVariable v) (codes "show") _ refl refl refl (one_word (name_of t v) r.plain) refl (ap (option_and_then (λ k. Some (ShowVariable k))) r.named)

-- ---- what is expected

expect_back : (t : Contents) (f : ExpectForm) (e : Expectation) (rest : List Text) → are_words rest ≡ true → form_of (codes "expect" ∷ rest) ≡ Some (form.Expect f)
    → expectation_of_form t (codes "expect" ∷ rest) f ≡ Some e → IsBack t (Expect e) (codes "expect" ∷ rest)
expect_back t f e rest plain fits reads =
    back t (form.Expect f) (Expect e) (codes "expect") rest refl refl refl plain fits (ap (option_and_then (λ x. Some (Expect x))) reads)

value_form : (name word : Text) → IsOtherWord name → is_range word ≡ false → form_of (codes "expect" ∷ name ∷ word ∷ []) ≡ Some (form.Expect expected.Value)
unfolding form_of
value_form name word free one = rw (differ _ _ free.1, differ _ _ free.2, differ _ _ free.3, one) refl

pub value_of_name : (t : Contents) (v : ℕ) (word : Text) (value : WrittenValue) → Row t v → IsOtherWord (name_of t v) → is_word word ≡ true → is_range word ≡ false
    → value_for t.variables v word ≡ Some value → IsBack t (Expect (value_expected (v, value))) (codes "expect" ∷ name_of t v ∷ word ∷ [])
value_of_name t v word value r free plain one is =
    expect_back t expected.Value (value_expected (v, value)) _ (two_words (name_of t v) word r.plain plain) (value_form (name_of t v) word free one)
    (ap (option_and_then (λ a. Some (value_expected a))) (assigned t (codes "expect") v word value r is))

-- ---- what is tested

-- a variable, and a number for it
abbrev numbered : ℕ → Option (Option ℕ) → Option (ℕ × Option ℕ)
numbered v o = option_and_then (λ n. Some (v, n)) o

abbrev with_held : Contents → Text → ℕ → Option (ℕ × Option ℕ)
with_held t word v = numbered v (held_for t.variables v word)

-- wherever their words stand
held_pair : (t : Contents) (v : ℕ) (word : Text) (n : Option ℕ) → Row t v → held_for t.variables v word ≡ Some n
    → option_and_then (with_held t word) (variable_named t.variables (name_of t v)) ≡ Some (v, n)
held_pair t v word n r is = ap (option_and_then (with_held t word)) r.named ∙ ap (numbered v) is

abbrev with_mask : Contents → Text → ℕ → Option (ℕ × Option ℕ)
with_mask t word v = numbered v (mask_for t.variables v word)

mask_pair : (t : Contents) (v : ℕ) (word : Text) (n : Option ℕ) → Row t v → mask_for t.variables v word ≡ Some n
    → option_and_then (with_mask t word) (variable_named t.variables (name_of t v)) ≡ Some (v, n)
mask_pair t v word n r is = ap (option_and_then (with_mask t word)) r.named ∙ ap (numbered v) is

compared_form : (name word : Text) (c : Comparison) → form_of (codes "expect" ∷ name ∷ sign_word c ∷ word ∷ []) ≡ Some (form.Expect (expected.Compared c))
unfolding form_of
compared_form name word Equal = refl
compared_form name word Unequal = refl
compared_form name word Less = refl
compared_form name word LessEqual = refl
compared_form name word Greater = refl
compared_form name word GreaterEqual = refl

sign_plain : (c : Comparison) → is_word (sign_word c) ≡ true
sign_plain Equal = refl
sign_plain Unequal = refl
sign_plain Less = refl
sign_plain LessEqual = refl
sign_plain Greater = refl
sign_plain GreaterEqual = refl

compared_back : (t : Contents) (v : ℕ) (c : Comparison) (n : ℕ) → Row t v → n < 2 ^ row_bits (slice_get t.variables v)
    → IsBack t (Expect (expects.Holds v (Compared c n))) (codes "expect" ∷ name_of t v ∷ sign_word c ∷ value_word (has_sign t v) n ∷ [])
compared_back t v c n r h =
    let word = value_word (has_sign t v) n in
    expect_back t (expected.Compared c) (expects.Holds v (Compared c n)) _
    (and _ _ r.plain (two_words (sign_word c) word (sign_plain c) (value_plain (has_sign t v) n (word_holds t v n r h)))) (compared_form (name_of t v) word c)
    (ap (option_and_then (λ (a : ℕ × Option ℕ). Some (test_expected a.0 (compared_test c a.1)))) (held_pair t v word (Some n) r (held_back t v n r h)))

masked_form : (name mask word : Text) (is : Bool) → form_of (codes "expect" ∷ name ∷ codes "&" ∷ mask ∷ masked_word is ∷ word ∷ []) ≡ Some (form.Expect (expected.Masked is))
unfolding form_of
masked_form name mask word true = refl
masked_form name mask word false = refl

masked_plain : (is : Bool) → is_word (masked_word is) ≡ true
masked_plain true = refl
masked_plain false = refl

within_mask : (is : Bool) (mask n : ℕ) → bit_and n mask ≡ n → masked_test is (Some mask) (Some n) ≡ Some (Masked mask is n)
within_mask is mask n h = let yes : (bit_and n mask == n) ≡ true = grind (arith, nat_tests) in rw yes refl

masked_back : (t : Contents) (v mask : ℕ) (is : Bool) (n : ℕ) → Row t v → mask < 2 ^ row_bits (slice_get t.variables v) → n < 2 ^ row_bits (slice_get t.variables v) → bit_and n mask ≡ n
    → IsBack t (Expect (expects.Holds v (Masked mask is n))) (codes "expect" ∷ name_of t v ∷ codes "&" ∷ decimal mask ∷ masked_word is ∷ decimal n ∷ [])
masked_back t v mask is n r h g inside =
    expect_back t (expected.Masked is) (expects.Holds v (Masked mask is n)) _
    (and _ _ r.plain (and _ _ refl (and _ _ (number_word mask (word_holds t v mask r h)) (two_words (masked_word is) (decimal n) (masked_plain is) (number_word n (word_holds t v n r g))))))
    (masked_form (name_of t v) (decimal mask) (decimal n) is)
    (ap (option_and_then (λ (m : ℕ × Option ℕ). option_and_then (λ (a : ℕ × Option ℕ). Some (test_expected m.0 (masked_test is m.1 a.1)))
    (option_and_then (with_mask t (decimal n)) (variable_named t.variables (name_of t v))))) (mask_pair t v (decimal mask) (Some mask) r (mask_back t v mask r h))
    ∙ (ap (option_and_then (λ (a : ℕ × Option ℕ). Some (test_expected v (masked_test is (Some mask) a.1)))) (mask_pair t v (decimal n) (Some n) r (mask_back t v n r g))
    ∙ ap (λ o. Some (test_expected v o)) (within_mask is mask n inside)))

range_form : (name word : Text) → IsOtherWord name → is_range word ≡ true → form_of (codes "expect" ∷ name ∷ word ∷ []) ≡ Some (form.Expect expected.Range)
unfolding form_of
range_form name word free two = rw (differ _ _ free.1, differ _ _ free.2, differ _ _ free.3, two) refl

range_plain : (signed : Bool) (low high : ℕ) → low < 2 ^ 64 → high < 2 ^ 64 → is_word (range_word signed low high) ≡ true
range_plain signed low high h g =
    all_joined is_plain (value_word signed low) (46 ∷ 46 ∷ value_word signed high) (value_plain signed low h) (and _ _ refl (and _ _ refl (value_plain signed high g)))

range_bounds : (signed : Bool) (low high : ℕ) → low < 2 ^ 64 → bounds_of (range_word signed low high) ≡ Some (value_word signed low, value_word signed high)
range_bounds signed low high h = range_is (value_word signed low) (value_word signed high) (value_undotted signed low h)

abbrev Bounds : Type 0
Bounds = Option ℕ × Option ℕ

abbrev both_held : Option ℕ → Option (Option ℕ) → Option Bounds
both_held m o = option_and_then (λ n. Some (m, n)) o

abbrev bounded : ℕ → Option Bounds → Option (ℕ × Bounds)
bounded v o = option_and_then (λ b. Some (v, b)) o

abbrev with_words : Contents → ℕ → Option (Text × Text) → Option (ℕ × Bounds)
with_words t v o = bounded v (option_and_then (bounds_for t.variables v) o)

abbrev with_bounds : Contents → Text → ℕ → Option (ℕ × Bounds)
with_bounds t word v = with_words t v (bounds_of word)

bounds_back : (t : Contents) (v low high : ℕ) → Row t v → low < 2 ^ row_bits (slice_get t.variables v) → high < 2 ^ row_bits (slice_get t.variables v)
    → bounds_for t.variables v (value_word (has_sign t v) low, value_word (has_sign t v) high) ≡ Some (Some low, Some high)
bounds_back t v low high r h g =
    ap (option_and_then (λ m. both_held m (held_for t.variables v (value_word (has_sign t v) high)))) (held_back t v low r h) ∙ ap (both_held (Some low)) (held_back t v high r g)

range_back : (t : Contents) (v low high : ℕ) → Row t v → IsOtherWord (name_of t v) → low < 2 ^ row_bits (slice_get t.variables v) → high < 2 ^ row_bits (slice_get t.variables v)
    → IsBack t (Expect (expects.Holds v (Between low high))) (codes "expect" ∷ name_of t v ∷ range_word (has_sign t v) low high ∷ [])
range_back t v low high r free h g =
    let word = range_word (has_sign t v) low high in
    let bounds = range_bounds (has_sign t v) low high (word_holds t v low r h) in
    expect_back t expected.Range (expects.Holds v (Between low high)) _
    (two_words (name_of t v) word r.plain (range_plain (has_sign t v) low high (word_holds t v low r h) (word_holds t v high r g)))
    (range_form (name_of t v) word free (ap (λ o. is_some o) bounds))
    (ap (option_and_then (λ (b : ℕ × Bounds). Some (test_expected b.0 (between_test b.1.0 b.1.1))))
    (ap (option_and_then (with_bounds t word)) r.named ∙ (ap (with_words t v) bounds ∙ ap (bounded v) (bounds_back t v low high r h g))))

test_back : (t : Contents) (v : ℕ) (test : ValueTest) → Row t v → IsTestOf (name_of t v) (row_bits (slice_get t.variables v)) test
    → IsBack t (Expect (expects.Holds v test)) (codes "expect" ∷ name_of t v ∷ test_words (has_sign t v) test)
test_back t v (Compared c n) r h = compared_back t v c n r h.1
test_back t v (Masked mask is n) r h = masked_back t v mask is n r h.1 h.2 h.3
test_back t v (Between low high) r h = range_back t v low high r h.0 h.1 h.2

-- ---- sync units and start-ups

units_back : (t : Contents) (taken : Bool) → IsBack t (Expect (expects.Units taken)) (codes "expect" ∷ taken_word taken ∷ [])
unfolding form_of
units_back t true = expect_back t (expected.Units true) _ _ refl refl refl
units_back t false = expect_back t (expected.Units false) _ _ refl refl refl

unit_back : (t : Contents) (u : ℕ) (taken : Bool) → u < 2 ^ 64 → IsBack t (Expect (expects.Unit u taken)) (codes "expect" ∷ taken_word taken ∷ decimal u ∷ [])
unfolding form_of
unit_back t u true h = expect_back t (expected.Unit true) _ _ (two_words (codes "taken") (decimal u) refl (number_word u h)) refl (ap (option_and_then (λ u. Some (expects.Unit u true))) (number_back u h))
unit_back t u false h = expect_back t (expected.Unit false) _ _ (two_words (codes "untaken") (decimal u) refl (number_word u h)) refl (ap (option_and_then (λ u. Some (expects.Unit u false))) (number_back u h))

ready_back : (t : Contents) → IsBack t (Expect expects.Ready) (codes "expect" ∷ codes "ready" ∷ [])
unfolding form_of
ready_back t = expect_back t expected.Ready _ _ refl refl refl

failed_back : (t : Contents) (number : Option ℕ) → IsNumber number → IsBack t (Expect (expects.Failed number)) (codes "expect" ∷ codes "failed" ∷ number_words number)
unfolding form_of
failed_back t None h = expect_back t expected.Failed _ _ refl refl refl
failed_back t (Some n) h = expect_back t expected.Refusal _ _ (two_words (codes "failed") (decimal n) refl (number_word n h)) refl (ap (option_and_then (λ n. Some (expects.Failed (Some n)))) (number_back n h))

-- ---- AL states

state_back : (state : State) → state_named (state_name state) ≡ Some state
unfolding state_named
state_back Init = refl
state_back PreOp = refl
state_back SafeOp = refl
state_back Op = refl

state_plain : (state : State) → is_word (state_name state) ≡ true
state_plain Init = refl
state_plain PreOp = refl
state_plain SafeOp = refl
state_plain Op = refl

-- a hex digit
digit_is : (d : ℕ) → d < 16 → nat_lt (digit_value (digit_char d)) 16 ≡ true
digit_is d h = rw (digit_value-digit_char d (omega arith)) (is_true d 16 h)

digit_plain : (d : ℕ) → d < 16 → is_plain (digit_char d) ≡ true
digit_plain d h = plain_by_digit (digit_char d) (digit_is d h)

code_value : (a b c d : ℕ) → a < 16 → b < 16 → c < 16 → d < 16
    → digits_value 16 (digit_char a ∷ digit_char b ∷ digit_char c ∷ digit_char d ∷ []) ≡ ((a * 16 + b) * 16 + c) * 16 + d
code_value a b c d ha hb hc hd =
    let ea : digit_value (digit_char a) ≡ a = digit_value-digit_char a (omega arith) in
    let eb : digit_value (digit_char b) ≡ b = digit_value-digit_char b (omega arith) in
    let ec : digit_value (digit_char c) ≡ c = digit_value-digit_char c (omega arith) in
    let ed : digit_value (digit_char d) ≡ d = digit_value-digit_char d (omega arith) in
    rw (ea, eb, ec, ed) (omega arith)

code_hex : (a b c d : ℕ) → a < 16 → b < 16 → c < 16 → d < 16
    → hex_of (digit_char a ∷ digit_char b ∷ digit_char c ∷ digit_char d ∷ []) ≡ Some (((a * 16 + b) * 16 + c) * 16 + d)
unfolding hex_of
code_hex a b c d ha hb hc hd =
    let value = code_value a b c d ha hb hc hd in
    let low : nat_lt (((a * 16 + b) * 16 + c) * 16 + d) (2 ^ 64) ≡ true = is_true _ _ (omega arith) in
    rw (digit_is a ha, digit_is b hb, digit_is c hc, digit_is d hd, value, low) refl

digits_join : (n : ℕ) → n < 2 ^ 16 → ((n / 4096 * 16 + n / 256 % 16) * 16 + n / 16 % 16) * 16 + n % 16 ≡ n
digits_join n h = omega arith

code_back : (n : ℕ) → n < 2 ^ 16 → code_of (code_word n) ≡ Some n
unfolding code_of
code_back n h =
    let a : n / 4096 < 16 = omega arith in
    let hex = code_hex (n / 4096) (n / 256 % 16) (n / 16 % 16) (n % 16) a (omega arith) (omega arith) (omega arith) in
    let low : nat_lt n (2 ^ 16) ≡ true = is_true n (2 ^ 16) h in
    ap (option_and_then (λ k. if nat_lt k (2 ^ 16) then Some k else None)) (hex ∙ ap Some (digits_join n h)) ∙ rw low refl

code_plain : (n : ℕ) → n < 2 ^ 16 → is_word (code_word n) ≡ true
code_plain n h =
    let a : n / 4096 < 16 = omega arith in
    rw (digit_plain (n / 4096) a, digit_plain (n / 256 % 16) (omega arith), digit_plain (n / 16 % 16) (omega arith), digit_plain (n % 16) (omega arith)) refl

state_form : (word state : Text) → list_all is_ascii_digit word ≡ true → form_of (codes "expect" ∷ codes "state" ∷ word ∷ state ∷ []) ≡ Some (form.Expect expected.State)
unfolding form_of
state_form word state h =
    rw (
      no_sign_word word (codes "==") h refl,
      no_sign_word word (codes "!=") h refl,
      no_sign_word word (codes "<") h refl,
      no_sign_word word (codes "<=") h refl,
      no_sign_word word (codes ">") h refl,
      no_sign_word word (codes ">=") h refl,
    ) refl

in_state : (t : Contents) (s : ℕ) (state : State) (code : Option ℕ) → s < 2 ^ 64 → IsCode code
    → IsBack t (Expect (expects.State s state code)) (codes "expect" ∷ codes "state" ∷ decimal s ∷ state_name state ∷ code_words code)
unfolding form_of
in_state t s state None h g =
    expect_back t expected.State _ _ (and _ _ refl (two_words (decimal s) (state_name state) (number_word s h) (state_plain state))) (state_form (decimal s) (state_name state) (number_digits s h)) (rw (slave_back t s h, state_back state) refl)
in_state t s state (Some code) h g =
    expect_back t expected.Code _ _ (and _ _ refl (and _ _ (number_word s h) (two_words (state_name state) (code_word code) (state_plain state) (code_plain code g)))) refl
    (rw (slave_back t s h, state_back state, code_back code g) refl)

expectation_back : (t : Contents) (e : Expectation) → table.IsSound t → IsExpectationOf t.variables e → IsBack t (Expect e) (codes "expect" ∷ words_expecting t.variables e)
expectation_back t (expects.Is v x) sound h =
    let r = row_at t v sound h.0.0 in let signed = has_sign t v in value_of_name t v (value_word signed x) (Number x) r h.0.1 (value_plain signed x h.1) (no_bounds signed x h.1) (value_for_back t v x r h.1)
expectation_back t (expects.Holds v test) sound h = test_back t v test (row_at t v sound h.0) h.1
expectation_back t (expects.Never v) sound h =
    let r = row_at t v sound h.0 in value_of_name t v below_all Outside r h.1 refl refl (below_for_back t v r)
expectation_back t (expects.Units taken) sound h = units_back t taken
expectation_back t (expects.Unit u taken) sound h = unit_back t u taken h
expectation_back t (expects.State s state code) sound h = in_state t s state code h.0 h.1
expectation_back t expects.Ready sound h = ready_back t
expectation_back t (expects.Failed number) sound h = failed_back t number h

-- ---- actions

-- words that stand for an action alone
pub record IsActionBack (t : Contents) (action : LineAction) (words : List Text) : Type 0 where
  verb : Text
  rest : List Text
  are : words ≡ verb ∷ rest
  some : nat_lt 0 (length verb) ≡ true
  other : bytes_eq verb (codes "repeat") ≡ false
  silent : bytes_eq verb (codes "echo") ≡ false
  wanted : denied_words (verb ∷ rest) ≡ None
  plain : are_words (verb ∷ rest) ≡ true
  reads : actions_of t (verb ∷ rest) ≡ Some (action ∷ [])

acts : (t : Contents) (verb : Text) (rest : List Text) (action : LineAction) → nat_lt 0 (length verb) ≡ true → bytes_eq verb (codes "repeat") ≡ false → bytes_eq verb (codes "echo") ≡ false
    → denied_words (verb ∷ rest) ≡ None → are_words (verb ∷ rest) ≡ true → actions_of t (verb ∷ rest) ≡ Some (action ∷ []) → IsActionBack t action (verb ∷ rest)
acts t verb rest action some other silent wanted plain reads =
    record { verb = verb; rest = rest; are = refl; some = some; other = other; silent = silent; wanted = wanted; plain = plain; reads = reads }

words_plain : (t : Contents) (action : LineAction) (words : List Text) → IsBack t action words → are_words words ≡ true
words_plain t action words b = ap are_words b.are ∙ b.plain

words_read : (t : Contents) (action : LineAction) (words : List Text) → IsBack t action words → action_of_words t words ≡ Some action
words_read t action words b = ap (action_of_words t) b.are ∙ b.reads

-- a verb that has one form
one_form : (t : Contents) (verb : Text) (rest : List Text) → bytes_eq verb (codes "set") ≡ false → bytes_eq verb (codes "show") ≡ false → bytes_eq verb (codes "out") ≡ false
    → bytes_eq verb (codes "within") ≡ false → actions_of t (verb ∷ rest) ≡ alone (action_of_words t (verb ∷ rest))
one_form t verb [] a b c d = rw d refl
one_form t verb (word ∷ words) a b c d = rw (a, b, c, d) refl

pub usual : (t : Contents) (verb : Text) (rest : List Text) (action : LineAction) → IsBack t action (verb ∷ rest) → nat_lt 0 (length verb) ≡ true → bytes_eq verb (codes "repeat") ≡ false
    → bytes_eq verb (codes "echo") ≡ false → denied_words (verb ∷ rest) ≡ None → bytes_eq verb (codes "set") ≡ false → bytes_eq verb (codes "show") ≡ false
    → bytes_eq verb (codes "out") ≡ false → bytes_eq verb (codes "within") ≡ false → IsActionBack t action (verb ∷ rest)
usual t verb rest action back some other silent wanted a b c d =
    acts t verb rest action some other silent wanted (words_plain t action (verb ∷ rest) back) (one_form t verb rest a b c d ∙ ap alone (words_read t action (verb ∷ rest) back))

alone_either : (a : LineAction) (b : Bool) → alone_or (a ∷ []) (if b then Some a else None) ≡ a ∷ []
alone_either a true = refl
alone_either a false = refl

pub set_acts : (t : Contents) (action : LineAction) (name word : Text) → IsBack t action (codes "set" ∷ name ∷ word ∷ []) → IsActionBack t action (codes "set" ∷ name ∷ word ∷ [])
unfolding each_setting
set_acts t action name word b =
    acts t (codes "set") _ action refl refl refl refl (words_plain t action _ b)
    (ap (λ o. option_map (all_or_one t.variables) (option_and_then (λ a. option_and_then (λ more. Some (a ∷ more)) (each_setting t [])) o)) (words_read t action _ b)
    ∙ ap Some (alone_either action (is_unsettable t.variables action)))

named_acts : (t : Contents) (action : LineAction) (verb name : Text) → bytes_eq verb (codes "show") || bytes_eq verb (codes "out") ≡ true → nat_lt 0 (length verb) ≡ true
    → bytes_eq verb (codes "repeat") ≡ false → bytes_eq verb (codes "echo") ≡ false → bytes_eq verb (codes "set") ≡ false → denied_words (verb ∷ name ∷ []) ≡ None
    → actions_of t (verb ∷ name ∷ []) ≡ each_name t verb (name ∷ []) → IsBack t action (verb ∷ name ∷ []) → IsActionBack t action (verb ∷ name ∷ [])
named_acts t action verb name either some other silent unset wanted names b =
    acts t verb _ action some other silent wanted (words_plain t action _ b)
    (names ∙ ap (λ o. option_and_then (λ a. option_and_then (λ more. Some (a ∷ more)) (each_name t verb [])) o) (words_read t action _ b))

-- without a name
show_acts : (t : Contents) → IsBack t Show (codes "show" ∷ []) → IsActionBack t Show (codes "show" ∷ [])
show_acts t b = acts t (codes "show") [] Show refl refl refl refl (words_plain t Show _ b) (ap alone (words_read t Show _ b))

wanted_expecting : (variables : List VariableRow) (e : Expectation) → IsExpectationOf variables e → denied_words (codes "expect" ∷ words_expecting variables e) ≡ None
wanted_expecting variables (expects.Is v x) h = rw (differ _ _ h.0.1.0) refl
wanted_expecting variables (expects.Holds v (Compared c n)) h = rw (differ _ _ h.1.0) refl
wanted_expecting variables (expects.Holds v (Masked mask is n)) h = rw (differ _ _ h.1.0) refl
wanted_expecting variables (expects.Holds v (Between low high)) h = rw (differ _ _ h.1.0.0) refl
wanted_expecting variables (expects.Never v) h = rw (differ _ _ h.1.0) refl
wanted_expecting variables (expects.Units true) h = refl
wanted_expecting variables (expects.Units false) h = refl
wanted_expecting variables (expects.Unit u true) h = refl
wanted_expecting variables (expects.Unit u false) h = refl
wanted_expecting variables (expects.State s state code) h = refl
wanted_expecting variables expects.Ready h = refl
wanted_expecting variables (expects.Failed number) h = refl

within_acts : (t : Contents) (n : ℕ) (e : Expectation) → 1 ≤ n → n ≤ 1000000 → IsBack t (Expect e) (codes "expect" ∷ words_expecting t.variables e)
    → IsActionBack t (Within n e) (codes "within" ∷ decimal n ∷ codes "expect" ∷ words_expecting t.variables e)
within_acts t n e some most b =
    let words : List Text = codes "expect" ∷ words_expecting t.variables e in
    let low : n < 2 ^ 64 = omega arith in
    acts t (codes "within") (decimal n ∷ words) (Within n e) refl refl refl refl (and _ _ refl (and _ _ (number_word n low) (words_plain t (Expect e) words b)))
    (ap (λ o. alone (option_and_then (λ k. option_and_then (within_if k) (action_of_words t words)) o)) (times_back n some most)
    ∙ ap (λ o. alone (option_and_then (within_if n) o)) (words_read t (Expect e) words b))

action_back : (t : Contents) (action : LineAction) → table.IsSound t → IsActionOf t.variables action → IsActionBack t action (words_for t.variables action)
unfolding form_of
action_back t Start sound h = usual t (codes "start") _ _ (back t form.Start _ (codes "start") [] refl refl refl refl refl refl) refl refl refl refl refl refl refl refl
action_back t (Set v x) sound h = let r = row_at t v sound h.0 in set_acts t _ _ _ (set_back t v (value_word (has_sign t v) x) (Number x) r (value_plain (has_sign t v) x h.1) (value_for_back t v x r h.1))
action_back t Begin sound h = usual t (codes "begin") _ _ (back t form.Begin _ (codes "begin") [] refl refl refl refl refl refl) refl refl refl refl refl refl refl refl
action_back t (Pass k) sound h = usual t (codes "pass") _ _ (place_back t form.Pass (codes "pass") k (λ k. Pass k) refl refl refl h refl refl) refl refl refl refl refl refl refl refl
action_back t (Lose k) sound h = usual t (codes "lose") _ _ (place_back t form.Lose (codes "lose") k (λ k. Lose k) refl refl refl h refl refl) refl refl refl refl refl refl refl refl
action_back t (LosePart n k) sound h = usual t (codes "lose") _ _ (lose_part_back t n k h.0 h.1) refl refl refl refl refl refl refl refl
action_back t (Output v) sound h = named_acts t _ (codes "out") _ refl refl refl refl refl refl refl (output_back t v (row_at t v sound h))
action_back t Served sound h = usual t (codes "served") _ _ (back t form.Served _ (codes "served") [] refl refl refl refl refl refl) refl refl refl refl refl refl refl refl
action_back t (Return k) sound h = usual t (codes "return") _ _ (place_back t form.Return (codes "return") k (λ k. Return k) refl refl refl h refl refl) refl refl refl refl refl refl refl refl
action_back t Close sound h = usual t (codes "close") _ _ (back t form.Close _ (codes "close") [] refl refl refl refl refl refl) refl refl refl refl refl refl refl refl
action_back t (Serve s) sound h = usual t (codes "serve") _ _ (by_slave t form.Serve (codes "serve") s (λ s. Serve s) refl refl refl h refl refl) refl refl refl refl refl refl refl refl
action_back t (Put s i x) sound h = usual t (codes "put") _ _ (put_back t s i x h.0 h.1 h.2) refl refl refl refl refl refl refl refl
action_back t (Get s i) sound h = usual t (codes "get") _ _ (get_back t s i h.0 h.1) refl refl refl refl refl refl refl refl
action_back t (Fail s) sound h = usual t (codes "fault") _ _ (by_slave t form.Fail (codes "fault") s (λ s. Fail s) refl refl refl h refl refl) refl refl refl refl refl refl refl refl
action_back t (Reset s) sound h = usual t (codes "reset") _ _ (by_slave t form.Reset (codes "reset") s (λ s. Reset s) refl refl refl h refl refl) refl refl refl refl refl refl refl refl
action_back t (Input v x) sound h =
    let r = row_at t v sound h.0 in
    let signed = has_sign t v in
    usual t (codes "in") _ _ (input_back t v (value_word signed x) (Number x) r (value_plain signed x h.1) (value_for_back t v x r h.1)) refl refl refl refl refl refl refl refl
action_back t (Never v) sound h = let r = row_at t v sound h in set_acts t _ _ _ (set_back t v below_all Outside r refl (below_for_back t v r))
action_back t (Expect e) sound h = usual t (codes "expect") _ _ (expectation_back t e sound h) refl refl refl (wanted_expecting t.variables e h) refl refl refl refl
action_back t (Within n e) sound h = within_acts t n e h.0 h.1 (expectation_back t e sound h.2)
action_back t Ready sound h = usual t (codes "ready") _ _ (back t form.Ready _ (codes "ready") [] refl refl refl refl refl refl) refl refl refl refl refl refl refl refl
action_back t Cycle sound h = usual t (codes "cycle") _ _ (back t form.Cycle _ (codes "cycle") [] refl refl refl refl refl refl) refl refl refl refl refl refl refl refl
action_back t Show sound h = show_acts t (back t form.Show _ (codes "show") [] refl refl refl refl refl refl)
action_back t (ShowVariable v) sound h = named_acts t _ (codes "show") _ refl refl refl refl refl refl refl (show_back t v (row_at t v sound h))
action_back t Report sound h = usual t (codes "report") _ _ (back t form.Report _ (codes "report") [] refl refl refl refl refl refl) refl refl refl refl refl refl refl refl
action_back t States sound h = usual t (codes "states") _ _ (back t form.States _ (codes "states") [] refl refl refl refl refl refl) refl refl refl refl refl refl refl refl
action_back t Stop sound h = usual t (codes "stop") _ _ (back t form.Stop _ (codes "stop") [] refl refl refl refl refl refl) refl refl refl refl refl refl refl refl

-- ---- steps and lines

-- words that stand for a step of line n alone
pub record IsStepBack (t : Contents) (n : ℕ) (expects_no : Bool) (action : LineAction) (words : List Text) : Type 0 where
  verb : Text
  rest : List Text
  are : words ≡ verb ∷ rest
  some : nat_lt 0 (length verb) ≡ true
  other : bytes_eq verb (codes "repeat") ≡ false
  plain : are_words (verb ∷ rest) ≡ true
  reads : tasks_of t n (verb ∷ rest) ≡ Some (step n expects_no action ∷ [])

pub alone_back : (t : Contents) (n : ℕ) (action : LineAction) (words : List Text) → IsActionBack t action words → IsStepBack t n false action words
alone_back t n action words b = record {
  verb = b.verb;
  rest = b.rest;
  are = b.are;
  some = b.some;
  other = b.other;
  plain = b.plain;
  reads = ap (λ (c : Bool). if c then Some (task.Echo (echoed b.rest) ∷ []) else steps_of t n (b.verb ∷ b.rest) (denied_words (b.verb ∷ b.rest))) b.silent
      ∙ (ap (steps_of t n (b.verb ∷ b.rest)) b.wanted ∙ ap (steps_if n false) b.reads);
}

step_back : (t : Contents) (n : ℕ) (expects_no : Bool) (action : LineAction) → IsActionBack t action (words_for t.variables action)
    → IsStepBack t n expects_no action (words_for_step t.variables expects_no action)
step_back t n false action b = alone_back t n action (words_for t.variables action) b
step_back t n true action b = record {
  verb = codes "expect";
  rest = codes "no" ∷ b.verb ∷ b.rest;
  are = ap (λ (ws : List Text). codes "expect" ∷ codes "no" ∷ ws) b.are;
  some = refl;
  other = refl;
  plain = and _ _ refl (and _ _ refl b.plain);
  reads = ap (steps_if n true) b.reads;
}

-- words that stand for a line
pub record IsLineBack (t : Contents) (line : Line) (words : List Text) : Type 0 where
  verb : Text
  rest : List Text
  are : words ≡ verb ∷ rest
  some : nat_lt 0 (length verb) ≡ true
  plain : are_words (verb ∷ rest) ≡ true
  reads : line_of_words t line.number (verb ∷ rest) ≡ Some line

abbrev pub line_with : ℕ → ℕ → Bool → LineAction → Line
line_with n times expects_no action = record { number = n; times = times; tasks = step n expects_no action ∷ [] }

pub once_back : (t : Contents) (n times : ℕ) (expects_no : Bool) (action : LineAction) (words : List Text) → times ≡ 1 → IsStepBack t n expects_no action words
    → IsLineBack t (line_with n times expects_no action) words
once_back t n times expects_no action words once b = record {
  verb = b.verb;
  rest = b.rest;
  are = b.are;
  some = b.some;
  plain = b.plain;
  reads = ap (λ (c : Bool). if c then repeated_line t n b.rest else done_times n 1 (tasks_of t n (b.verb ∷ b.rest))) b.other
      ∙ (ap (done_times n 1) b.reads ∙ ap (λ (k : ℕ). Some (line_with n k expects_no action)) (sym once));
}

often_back : (t : Contents) (n times : ℕ) (expects_no : Bool) (action : LineAction) (words : List Text) → 1 ≤ times → times ≤ 1000000 → IsStepBack t n expects_no action words
    → IsLineBack t (line_with n times expects_no action) (codes "repeat" ∷ decimal times ∷ words)
often_back t n times expects_no action words some most b =
    let low : times < 2 ^ 64 = omega arith in
    record {
      verb = codes "repeat";
      rest = decimal times ∷ b.verb ∷ b.rest;
      are = ap (λ (ws : List Text). codes "repeat" ∷ decimal times ∷ ws) b.are;
      some = refl;
      plain = and _ _ refl (and _ _ (number_word times low) b.plain);
      reads = ap (option_and_then (λ k. done_times n k (tasks_of t n (b.verb ∷ b.rest)))) (times_back times some most) ∙ ap (done_times n times) b.reads;
    }

line_words : (t : Contents) (n times : ℕ) (expects_no : Bool) (action : LineAction) (words : List Text) (once : Bool) → (times == 1) ≡ once → 1 ≤ times → times ≤ 1000000
    → IsStepBack t n expects_no action words → IsLineBack t (line_with n times expects_no action) (if once then words else codes "repeat" ∷ decimal times ∷ words)
line_words t n times expects_no action words true is some most b = once_back t n times expects_no action words (grind (arith, nat_tests)) b
line_words t n times expects_no action words false is some most b = often_back t n times expects_no action words some most b

nonempty : (word : Text) (words : List Text) → nat_lt 0 (length word) ≡ true → nat_lt 0 (length (joined_words (word ∷ words))) ≡ true
nonempty [] words h = cc
nonempty (c ∷ cs) [] h = is_true _ _ (omega arith)
nonempty (c ∷ cs) (next ∷ words) h = is_true _ _ (omega arith)

found : (t : Contents) (n : ℕ) (text : Text) (line : Line) → nat_lt 0 (length text) ≡ true → line_on t n text ≡ Some line → reading_without t n text ≡ reading.Line line
found t n [] line h is = cc
found t n (c ∷ cs) line h is = ap found_line is

pub text_back : (t : Contents) (line : Line) (words : List Text) → IsLineBack t line words → reading_of t line.number (joined_words words) ≡ reading.Line line
text_back t line words b =
    let text = joined_words (b.verb ∷ b.rest) in
    let same : uncommented text ≡ text = whole text (none_marked (b.verb ∷ b.rest) b.plain) in
    ap (λ (ws : List Text). reading_of t line.number (joined_words ws)) b.are
    ∙ (ap (reading_without t line.number) same
    ∙ found t line.number text line (nonempty b.verb b.rest b.some) (ap (line_of_words t line.number) (split_back b.verb b.rest b.plain) ∙ b.reads))

pub lines_read_back : LinesReadBack
lines_read_back t n times expects_no action sound h =
    let words : List Text = words_for_step t.variables expects_no action in
    text_back t (line_with n times expects_no action) _ (line_words t n times expects_no action words (times == 1) refl h.some h.most (step_back t n expects_no action (action_back t action sound h.written)))
