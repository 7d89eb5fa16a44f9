-- What `parse` returns is the number of a word that doesn't begin with a plus.
use Rattle.std.proofs.Common.{◌≡◌, ◌≢◌, ◌∙◌, ℕ, ◌<◌, ◌^◌, [], ◌∷◌, length, get_or, Bool, true, false, nat_lt, Some, None, refl, sym, ap, arith, if◌then◌else◌, ◌&&◌, Result, Ok, Err}
use Rattle.std.specs.Option.{unwrap_or}
use Rattle.std.specs.List.{slice_get}
use Rattle.std.specs.Result.{OkIff, result_ok}
use Rattle.std.specs.Str.{all_ascii_digits}
use Rattle.std.specs.Str.Parse.{ParsesUnsigned, digits_value}
use Rattle.std.proofs.lemmas.Str.Parse.{IsNumeralModel, numerals_by_value, parse_plain, tells_all_ascii_digits}
use Rattle.std.proofs.lemmas.Bool.Decides.{nat_tests}
use Rattle.ec_script.specs.Words.{Text, is_number, number_of}

abbrev pub first_of : Text → ℕ
first_of word = unwrap_or (slice_get word 0) 43

-- an empty word, and one that begins with a plus, write no number
pub no_number : (word : Text) → first_of word ≡ 43 → None ≡ number_of word
unfolding number_of
no_number [] h = refl
no_number (c ∷ cs) h = let e : c ≡ 43 = h in rw e refl

pub not_plus : (word : Text) → first_of word ≢ 43 → get_or word 0 0 ≢ 43
not_plus [] h = absurd (h refl)
not_plus (c ∷ cs) h = h

pub digits : IsNumeralModel (λ ds. all_ascii_digits ds ≡ true) (digits_value 10)
digits = numerals_by_value _ tells_all_ascii_digits

pub both : (a b c : Bool) → a ≡ true → b ≡ true → c ≡ true → a && (b && c) ≡ true
both a b c ha hb hc = rw (ha, hb, hc) refl

pub parts : (a b c : Bool) → a && (b && c) ≡ true → (a ≡ true) × (b ≡ true) × (c ≡ true)
parts true true true h = (refl, refl, refl)
parts true true false h = cc
parts true false c h = cc
parts false b c h = cc

pub is_true : (m n : ℕ) → m < n → nat_lt m n ≡ true
is_true m n h = grind (arith, nat_tests)

pub is_less : (m n : ℕ) → nat_lt m n ≡ true → m < n
is_less m n h = grind (arith, nat_tests)

pub by_test : (word : Text) (b : Bool) → is_number word ≡ b → number_of word ≡ (if b then Some (digits_value 10 word) else None)
unfolding number_of
by_test word b h = rw h refl

no_other : (word : Text) (b : Bool) → is_number word ≡ b → ((all_ascii_digits word ≡ true) × (0 < length word) × (digits_value 10 word < 2 ^ 64) → ⊥) → b ≡ false
no_other word false h none = refl
no_other word true h none =
    let p = parts _ _ _ h in
    absurd (none (p.0, is_less _ _ p.1, is_less _ _ p.2))

told : {E : Type 0} (word : Text) (r : Result ℕ E) → OkIff r ((all_ascii_digits word ≡ true) × (0 < length word) × (digits_value 10 word < 2 ^ 64)) (digits_value 10 word) → result_ok r ≡ number_of word
told word (Ok x) h =
    let number : is_number word ≡ true = both _ _ _ h.0.0 (is_true _ _ h.0.1) (is_true _ _ h.0.2) in
    ap Some h.1 ∙ sym (by_test word true number)
told word (Err e) h = sym (by_test word false (no_other word (is_number word) refl h))

pub parsed : {E : Type 0} (word : Text) (r : Result ℕ E) → first_of word ≢ 43 → ParsesUnsigned 64 10 word r → result_ok r ≡ number_of word
parsed word r h read = told word r (parse_plain digits 64 word r read (not_plus word h))

-- a number below 256 is a byte
pub byte_told : {E : Type 0} (n : ℕ) (r : Result ℕ E) → OkIff r (n < 256) n → result_ok r ≡ (if nat_lt n 256 then Some n else None)
byte_told n (Ok x) h = let t : nat_lt n 256 ≡ true = is_true n 256 h.0 in rw t (ap Some h.1)
byte_told n (Err e) h = let t : nat_lt n 256 ≡ false = grind (arith, nat_tests) in rw t refl

-- the same of a number below any limit
pub short_told : {E : Type 0} (most n : ℕ) (r : Result ℕ E) → OkIff r (n < most) n → result_ok r ≡ (if nat_lt n most then Some n else None)
short_told most n (Ok x) h = let t : nat_lt n most ≡ true = is_true n most h.0 in rw t (ap Some h.1)
short_told most n (Err e) h = let t : nat_lt n most ≡ false = grind (arith, nat_tests) in rw t refl
