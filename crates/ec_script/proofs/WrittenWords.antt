-- The words of a line that is written are read as the numbers and values that they stand for.
use Rattle.std.proofs.Common.{◌≡◌, ◌≢◌, ◌∙◌, ℕ, ◌+◌, ◌-◌, ◌<◌, ◌≤◌, ◌^◌, ◌==◌, ◌&&◌, List, [], ◌∷◌, ◌++◌, length, take, get_or, Bool, true, false, not, nat_lt, nat_le, position, Some, is_some, All, AllPairs, slice_get, codes, refl, sym, ap, subst, arith}
use Rattle.std.specs.Fmt.{decimal}
use Rattle.std.specs.List.{list_all, position_or_len}
use Rattle.std.specs.Char.{digit_value, is_ascii_digit}
use Rattle.std.specs.Str.{all_ascii_digits, bytes_eq}
use Rattle.std.specs.Str.Parse.{digits_value}
use Rattle.std.proofs.Math.Pow.{pow_mono}
use Rattle.std.proofs.lemmas.Bool.Decides.{nat_tests}
use Rattle.std.proofs.lemmas.Fmt.{decimal_nonempty, digits_decimal, digits_value-decimal}
use Rattle.std.proofs.lemmas.List.Elements.{All-nil, All-cons}
use Rattle.std.proofs.lemmas.List.Splits.{slice_split_at, slice_split_none}
use Rattle.std.proofs.lemmas.List.Sums.{position_or_len_is}
use Rattle.std.proofs.lemmas.Option.{slice_get_within, get_or_from_slice_get, slice_get-get_or}
use Rattle.std.proofs.lemmas.Slice.Eq.{bytes_eq-Decides}
use Rattle.ec_table.specs.Contents.{Contents}
use Rattle.ec_table.specs.Fields.{is_name_byte}
use Rattle.ec_table.specs.Sound as table
use Rattle.ec_table.specs.declared.rows.VariableRow.{VariableRow}
use Rattle.ec_script.specs.declared.value.WrittenValue.TheVariants.{Number, Outside}
use Rattle.ec_script.specs.Operands.{held_for, mask_for, value_for, variable_named}
use Rattle.ec_script.specs.Words.{Text, all_hex_digits, byte_of, is_number, is_range, number_of, plain_of, times_of, uncommented, value_of, words_of}
use Rattle.ec_script.specs.Writing.{below_all, joined_words, row_bits, row_name, hex_word, is_signed, value_word}
use Rattle.ec_script.proofs.Numbers.{by_test, both, digits, is_true}
use Rattle.ec_script.proofs.Ranges.{is_undotted, no_range}
use Rattle.ec_script.proofs.Values.{often}
use Rattle.ec_script.proofs.Verbs.{differ, false_from}
use Rattle.ec_script.proofs.Hex.{hex_back, hex_digits, hex_text}

-- ---- numbers

is_number_of : (n : ℕ) → n < 2 ^ 64 → is_number (decimal n) ≡ true
is_number_of n h =
    let value : digits_value 10 (decimal n) ≡ n = digits_value-decimal digits n h in
    let below : digits_value 10 (decimal n) < 2 ^ 64 = rw value h in
    both _ _ _ (digits_decimal digits n h) (is_true _ _ (decimal_nonempty n h)) (is_true _ _ below)

pub number_back : (n : ℕ) → n < 2 ^ 64 → number_of (decimal n) ≡ Some n
number_back n h = by_test (decimal n) true (is_number_of n h) ∙ ap Some (digits_value-decimal digits n h)

pub small : (x : ℕ) → x < 256 → x < 2 ^ 64
small x h = omega arith

pub byte_back : (x : ℕ) → x < 256 → byte_of (decimal x) ≡ Some x
unfolding byte_of
byte_back x h = let t : nat_lt x 256 ≡ true = is_true x 256 h in rw (number_back x (small x h), t) refl

pub times_back : (n : ℕ) → 1 ≤ n → n ≤ 1000000 → times_of (decimal n) ≡ Some n
unfolding times_of
times_back n some most = let low : n < 2 ^ 64 = omega arith in rw (number_back n low, often n some most) refl

-- ---- bytes of words

abbrev IsBlank : ℕ → Bool
IsBlank b = b == 32

abbrev IsMark : ℕ → Bool
IsMark b = b == 35

-- neither a blank nor the mark of a comment
abbrev pub is_plain : ℕ → Bool
is_plain b = not (IsBlank b) && not (IsMark b)

abbrev pub is_word : Text → Bool
is_word word = list_all is_plain word

abbrev pub are_words : List Text → Bool
are_words [] = true
are_words (word ∷ words) = is_word word && are_words words

pub and : (a b : Bool) → a ≡ true → b ≡ true → a && b ≡ true
and true true g h = refl
and true false g h = cc
and false b g h = cc

both_of : (a b : Bool) → (a && b) ≡ true → (a ≡ true) × (b ≡ true)
both_of true true h = (refl, refl)
both_of true false h = cc
both_of false b h = cc

not_true : (b : Bool) → not b ≡ true → b ≡ false
not_true true h = cc
not_true false h = refl

not_false : (b : Bool) → b ≡ false → not b ≡ true
not_false true h = cc
not_false false h = refl

-- a test that this byte fails
other_byte : (test : ℕ → Bool) (c : ℕ) → test c ≡ false → (b : ℕ) → test b ≡ true → (b == c) ≡ false
other_byte test c fails b h = false_from (b == c) (λ e.
    let is : b ≡ c = grind (arith, nat_tests) in
    let bad : true ≡ false = sym h ∙ (ap test is ∙ fails) in
    cc)

plain_by : (test : ℕ → Bool) → test 32 ≡ false → test 35 ≡ false → (word : Text) → list_all test word ≡ true → is_word word ≡ true
plain_by test blank mark [] h = refl
plain_by test blank mark (b ∷ bs) h =
    let p = both_of (test b) (list_all test bs) h in
    and (is_plain b) (is_word bs)
    (and (not (IsBlank b)) (not (IsMark b)) (not_false _ (other_byte test 32 blank b p.0)) (not_false _ (other_byte test 35 mark b p.0)))
    (plain_by test blank mark bs p.1)

all_digits : (word : Text) → all_ascii_digits word ≡ true → list_all is_ascii_digit word ≡ true
all_digits [] h = refl
all_digits (b ∷ bs) h = let p = both_of (is_ascii_digit b) (all_ascii_digits bs) h in and _ _ p.0 (all_digits bs p.1)

pub number_digits : (n : ℕ) → n < 2 ^ 64 → list_all is_ascii_digit (decimal n) ≡ true
number_digits n h = all_digits (decimal n) (digits_decimal digits n h)

pub number_word : (n : ℕ) → n < 2 ^ 64 → is_word (decimal n) ≡ true
number_word n h = plain_by is_ascii_digit refl refl (decimal n) (number_digits n h)

-- ---- words between blanks

no_blanks : (word : Text) → is_word word ≡ true → All (λ b. IsBlank b ≡ false) word
no_blanks [] h = All-nil (λ b. IsBlank b ≡ false)
no_blanks (b ∷ bs) h =
    let p = both_of (is_plain b) (is_word bs) h in
    let q = both_of (not (IsBlank b)) (not (IsMark b)) p.0 in
    All-cons (λ b. IsBlank b ≡ false) b bs (not_true _ q.0) (no_blanks bs p.1)

pub split_back : (word : Text) (words : List Text) → are_words (word ∷ words) ≡ true → words_of (joined_words (word ∷ words)) ≡ word ∷ words
split_back word [] h = slice_split_none IsBlank word (no_blanks word (both_of _ _ h).0)
split_back word (next ∷ words) h =
    let p = both_of (is_word word) (are_words (next ∷ words)) h in
    slice_split_at IsBlank word 32 (joined_words (next ∷ words)) (no_blanks word p.0) refl ∙ ap (λ ws. word ∷ ws) (split_back next words p.1)

-- ---- no comment

no_marks : (word : Text) → is_word word ≡ true → list_all (λ b. not (IsMark b)) word ≡ true
no_marks [] h = refl
no_marks (b ∷ bs) h =
    let p = both_of (is_plain b) (is_word bs) h in
    let q = both_of (not (IsBlank b)) (not (IsMark b)) p.0 in
    and _ _ q.1 (no_marks bs p.1)

pub all_joined : (test : ℕ → Bool) (xs ys : Text) → list_all test xs ≡ true → list_all test ys ≡ true → list_all test (xs ++ ys) ≡ true
all_joined test [] ys h g = g
all_joined test (x ∷ xs) ys h g = let p = both_of (test x) (list_all test xs) h in and _ _ p.0 (all_joined test xs ys p.1 g)

pub none_marked : (words : List Text) → are_words words ≡ true → list_all (λ b. not (IsMark b)) (joined_words words) ≡ true
none_marked [] h = refl
none_marked (word ∷ []) h = no_marks word (both_of _ _ h).0
none_marked (word ∷ next ∷ words) h =
    let p = both_of (is_word word) (are_words (next ∷ words)) h in
    all_joined (λ b. not (IsMark b)) word (32 ∷ joined_words (next ∷ words)) (no_marks word p.0) (and _ _ refl (none_marked (next ∷ words) p.1))

no_place : (line : Text) → list_all (λ b. not (IsMark b)) line ≡ true → position_or_len IsMark line ≡ length line
no_place [] h = refl
no_place (b ∷ bs) h =
    let p = both_of (not (IsMark b)) (list_all (λ b. not (IsMark b)) bs) h in
    rw p.0 (let e : position_or_len IsMark bs ≡ length bs = no_place bs p.1 in omega arith)

pub whole : (line : Text) → list_all (λ b. not (IsMark b)) line ≡ true → uncommented line ≡ line
whole line h =
    let same : position_or_len IsMark line ≡ length line = no_place line h in
    let past : nat_lt (position_or_len IsMark line) (length line) ≡ false = grind (arith, nat_tests) in
    rw past refl

-- ---- names

there_is : {X : Type 0} (xs : List X) (k : ℕ) → k < length xs → (x : X) × (slice_get xs k ≡ Some x)
there_is [] k h = absurd (omega arith)
there_is (x ∷ xs) k h = (get_or (x ∷ xs) k x, slice_get-get_or (x ∷ xs) k x h)

position_is : {X : Type 0} (test : X → Bool) (xs : List X) (k : ℕ) (x : X) → slice_get xs k ≡ Some x → test x ≡ true → ((j : ℕ) → j < k → test (get_or xs j x) ≡ false) → position test xs ≡ Some k
position_is test xs k x is pass before =
    let within : k < length xs = slice_get_within xs k x is in
    let here : get_or xs k x ≡ x = get_or_from_slice_get xs k x x is in
    let at : position_or_len test xs ≡ k = position_or_len_is test xs k x (omega arith) before (λ h. rw here pass) in
    rw (at, is_true k (length xs) within) refl

named : (rows : List VariableRow) (k : ℕ) (row : VariableRow) → AllPairs (λ (w x : VariableRow). w.name ≢ x.name) rows → slice_get rows k ≡ Some row → variable_named rows row.name ≡ Some k
named rows k row once is =
    let within : k < length rows = slice_get_within rows k row is in
    let here : get_or rows k row ≡ row = get_or_from_slice_get rows k row row is in
    position_is (λ (y : VariableRow). bytes_eq y.name row.name) rows k row is ((bytes_eq-Decides row.name row.name).1 refl)
    (λ j lt. differ (get_or rows j row).name row.name (λ same. once j k row lt within (same ∙ ap (λ (w : VariableRow). w.name) (sym here))))

sound_row : (rows : List VariableRow) (k : ℕ) (row : VariableRow) → All table.IsVariable rows → slice_get rows k ≡ Some row → table.IsVariable row
sound_row rows k row each is =
    let within : k < length rows = slice_get_within rows k row is in
    let here : get_or rows k row ≡ row = get_or_from_slice_get rows k row row is in
    subst table.IsVariable here (each k row within)

name_word : (row : VariableRow) → table.IsVariable row → is_word row.name ≡ true
name_word row sound =
    let all = both_of (nat_le 1 (length row.name) && nat_le (length row.name) 32) (list_all is_name_byte row.name) sound.name in
    plain_by is_name_byte refl refl row.name all.1

-- a variable of the table, and what is known of its row
pub record Row (t : Contents) (v : ℕ) : Type 0 where
  pub row : VariableRow
  pub at : slice_get t.variables v ≡ Some row
  pub plain : is_word (row_name (slice_get t.variables v)) ≡ true
  pub named : variable_named t.variables (row_name (slice_get t.variables v)) ≡ Some v
  pub some : 1 ≤ row.bits
  pub few : row.bits ≤ 64
  pub bits : row_bits (slice_get t.variables v) ≡ row.bits

row_from : (t : Contents) (v : ℕ) → table.IsSound t → (r : (row : VariableRow) × (slice_get t.variables v ≡ Some row)) → Row t v
row_from t v sound (row, at) =
    let is = sound_row t.variables v row sound.variables.each at in
    record {
      row = row;
      at = at;
      plain = rw at (name_word row is);
      named = rw at (named t.variables v row sound.variables.once at);
      some = is.least;
      few = is.most;
      bits = ap row_bits at;
    }

pub row_at : (t : Contents) (v : ℕ) → table.IsSound t → v < length t.variables → Row t v
row_at t v sound h = row_from t v sound (there_is t.variables v h)

-- ---- digits alone

first_digit : (c : ℕ) (cs : Text) → list_all is_ascii_digit (c ∷ cs) ≡ true → (c == 45) ≡ false
first_digit c cs h = other_byte is_ascii_digit 45 refl c (both_of _ _ h).0

pub no_sign : (word : Text) → list_all is_ascii_digit word ≡ true → (get_or word 0 0 == 45) ≡ false
no_sign [] h = refl
no_sign (c ∷ cs) h = first_digit c cs h

abbrev take_two : Text → Text
take_two word = take 2 word

abbrev second : Text → ℕ
second [] = 0
second (a ∷ []) = 0
second (a ∷ b ∷ cs) = b

-- digits alone have no x among them
pub no_prefix : (word : Text) → list_all is_ascii_digit word ≡ true → bytes_eq (take_two word) (codes "0x") ≡ false
no_prefix [] h = refl
no_prefix (a ∷ []) h = differ (a ∷ []) (codes "0x") (λ e. let bad : length (a ∷ []) ≡ length (codes "0x") = ap length e in omega arith)
no_prefix (a ∷ b ∷ cs) h =
    let p = both_of (is_ascii_digit b) (list_all is_ascii_digit cs) (both_of (is_ascii_digit a) (list_all is_ascii_digit (b ∷ cs)) h).1 in
    differ (a ∷ b ∷ []) (codes "0x") (λ e.
    let x : b ≡ 120 = ap second e in
    let bad : true ≡ false = sym p.0 ∙ ap is_ascii_digit x in
    cc)

-- digits alone have no dot among them, and are no sign
undotted_by : (test : ℕ → Bool) → test 46 ≡ false → (word : Text) → list_all test word ≡ true → is_undotted word ≡ true
undotted_by test dot [] h = refl
undotted_by test dot (b ∷ bs) h =
    let p = both_of (test b) (list_all test bs) h in
    and _ _ (not_false _ (other_byte test 46 dot b p.0)) (undotted_by test dot bs p.1)

pub undotted : (n : ℕ) → n < 2 ^ 64 → is_undotted (decimal n) ≡ true
undotted n h = undotted_by is_ascii_digit refl (decimal n) (number_digits n h)

pub no_sign_word : (word sign : Text) → list_all is_ascii_digit word ≡ true → list_all is_ascii_digit sign ≡ false → bytes_eq word sign ≡ false
no_sign_word word sign h g = differ word sign (λ e.
    let bad : true ≡ false = sym h ∙ (ap (list_all is_ascii_digit) e ∙ g) in
    cc)

-- ---- hex digits

abbrev is_hex_digit : ℕ → Bool
is_hex_digit c = nat_lt (digit_value c) 16

each_hex : (word : Text) → all_hex_digits word ≡ true → list_all is_hex_digit word ≡ true
each_hex [] h = refl
each_hex (c ∷ cs) h = let p = both_of (is_hex_digit c) (all_hex_digits cs) h in and _ _ p.0 (each_hex cs p.1)

pub plain_by_digit : (c : ℕ) → nat_lt (digit_value c) 16 ≡ true → is_plain c ≡ true
plain_by_digit c h = and (not (IsBlank c)) (not (IsMark c)) (not_false _ (other_byte is_hex_digit 32 refl c h)) (not_false _ (other_byte is_hex_digit 35 refl c h))

hex_plain : (n : ℕ) → n < 2 ^ 64 → is_word (hex_word n) ≡ true
hex_plain n h = and _ _ refl (and _ _ refl (plain_by is_hex_digit refl refl (hex_text n) (each_hex (hex_text n) (hex_digits n h))))

hex_undotted : (n : ℕ) → n < 2 ^ 64 → is_undotted (hex_word n) ≡ true
hex_undotted n h = and _ _ refl (and _ _ refl (undotted_by is_hex_digit refl (hex_text n) (each_hex (hex_text n) (hex_digits n h))))

-- ---- values

pub value_plain : (signed : Bool) (x : ℕ) → x < 2 ^ 64 → is_word (value_word signed x) ≡ true
value_plain false x h = number_word x h
value_plain true x h = hex_plain x h

pub value_undotted : (signed : Bool) (x : ℕ) → x < 2 ^ 64 → is_undotted (value_word signed x) ≡ true
value_undotted false x h = undotted x h
value_undotted true x h = hex_undotted x h

pub no_bounds : (signed : Bool) (x : ℕ) → x < 2 ^ 64 → is_range (value_word signed x) ≡ false
no_bounds signed x h = ap (λ o. is_some o) (no_range (value_word signed x) (value_undotted signed x h))

pub value_back : (signed : Bool) (bits x : ℕ) → x < 2 ^ 64 → value_of signed bits (value_word signed x) ≡ Some (Number x)
unfolding value_of plain_of
value_back false bits x h = let d = number_digits x h in rw (no_sign (decimal x) d, no_prefix (decimal x) d, number_back x h) refl
value_back true bits x h = rw (hex_back x h) refl

few_less : (bits : ℕ) → bits ≤ 64 → bits - 1 ≤ 63
few_less bits few = omega arith

below_back : (signed : Bool) (bits : ℕ) → bits ≤ 64 → value_of signed bits below_all ≡ Some Outside
unfolding value_of number_of
below_back signed bits few =
    let most : 2 ^ (bits - 1) ≤ 2 ^ 63 = pow_mono (few_less bits few) in
    let no : nat_le 9223372036854775809 (2 ^ (bits - 1)) ≡ false = grind (arith, nat_tests) in
    rw no refl

abbrev pub has_sign : Contents → ℕ → Bool
has_sign t v = is_signed (slice_get t.variables v)

pub value_for_back : (t : Contents) (v x : ℕ) → Row t v → x < 2 ^ 64 → value_for t.variables v (value_word (has_sign t v) x) ≡ Some (Number x)
value_for_back t v x r h = rw r.at (value_back r.row.signed r.row.bits x h)

pub below_for_back : (t : Contents) (v : ℕ) → Row t v → value_for t.variables v below_all ≡ Some Outside
below_for_back t v r = rw r.at (below_back r.row.signed r.row.bits r.few)

-- a number that the variable's bits hold
pub below_64 : (n bits : ℕ) → n < 2 ^ bits → bits ≤ 64 → n < 2 ^ 64
below_64 n bits h few = let most : 2 ^ bits ≤ 2 ^ 64 = pow_mono few in omega (arith, h, most)

pub bits_hold : (t : Contents) (v n : ℕ) (r : Row t v) → n < 2 ^ row_bits (slice_get t.variables v) → n < 2 ^ r.row.bits
bits_hold t v n r h = subst (λ (bits : ℕ). n < 2 ^ bits) r.bits h

pub word_holds : (t : Contents) (v n : ℕ) (r : Row t v) → n < 2 ^ row_bits (slice_get t.variables v) → n < 2 ^ 64
word_holds t v n r h = below_64 n r.row.bits (bits_hold t v n r h) r.few

pub held_back : (t : Contents) (v n : ℕ) → Row t v → n < 2 ^ row_bits (slice_get t.variables v) → held_for t.variables v (value_word (has_sign t v) n) ≡ Some (Some n)
held_back t v n r h =
    let less : nat_lt n (2 ^ r.row.bits) ≡ true = is_true n (2 ^ r.row.bits) (bits_hold t v n r h) in
    rw (r.at, value_back r.row.signed r.row.bits n (word_holds t v n r h), less) refl

pub mask_back : (t : Contents) (v n : ℕ) → Row t v → n < 2 ^ row_bits (slice_get t.variables v) → mask_for t.variables v (decimal n) ≡ Some (Some n)
mask_back t v n r h =
    let less : nat_lt n (2 ^ r.row.bits) ≡ true = is_true n (2 ^ r.row.bits) (bits_hold t v n r h) in
    rw (r.at, value_back false r.row.bits n (word_holds t v n r h), less) refl
