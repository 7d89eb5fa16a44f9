-- What `from_str_radix` returns is the number of hex digits that don't begin with a plus.
use Rattle.std.proofs.Common.{◌≡◌, ◌≢◌, ◌∙◌, ℕ, ◌<◌, ◌^◌, [], ◌∷◌, Bool, true, false, nat_lt, Some, None, refl, sym, ap, arith, if◌then◌else◌, ◌&&◌, Result, Ok, Err}
use Rattle.std.specs.Char.{digit_value}
use Rattle.std.specs.Fmt.{digits}
use Rattle.std.specs.Result.{OkIff, result_ok}
use Rattle.std.specs.Str.Parse.{AllDigits, IsNumeral, ParsesUnsigned, digits_value}
use Rattle.std.proofs.lemmas.Fmt.{digits_is_IsNumeral}
use Rattle.std.proofs.lemmas.Str.Parse.{without_leading_plus_none}
use Rattle.ec_script.specs.Words.{Text, all_hex_digits, hex_of, is_hex}
use Rattle.ec_script.proofs.Numbers.{both, first_of, is_true, is_less, not_plus, parts}

pub no_hex : (word : Text) → first_of word ≡ 43 → None ≡ hex_of word
unfolding hex_of
no_hex [] h = refl
no_hex (c ∷ cs) h = let e : c ≡ 43 = h in rw e refl

and : (a b : Bool) → a ≡ true → b ≡ true → a && b ≡ true
and true true g h = refl
and true false g h = cc
and false b g h = cc

and_parts : (a b : Bool) → a && b ≡ true → (a ≡ true) × (b ≡ true)
and_parts true true h = (refl, refl)
and_parts true false h = cc
and_parts false b h = cc

all_from : (word : Text) → AllDigits 16 word → all_hex_digits word ≡ true
all_from [] h = refl
all_from (c ∷ cs) h = and _ _ (is_true _ _ h.0) (all_from cs h.1)

all_to : (word : Text) → all_hex_digits word ≡ true → AllDigits 16 word
all_to [] h = tt
all_to (c ∷ cs) h = let p = and_parts (nat_lt (digit_value c) 16) (all_hex_digits cs) h in (is_less _ _ p.0, all_to cs p.1)

by_test : (word : Text) (b : Bool) → is_hex word ≡ b → hex_of word ≡ (if b then Some (digits_value 16 word) else None)
unfolding hex_of
by_test word b h = rw h refl

no_other : (word : Text) (b : Bool) → is_hex word ≡ b → (IsNumeral 16 word × (digits_value 16 word < 2 ^ 64) → ⊥) → b ≡ false
no_other word false h none = refl
no_other word true h none =
    let p = parts _ _ _ h in
    absurd (none ((is_less _ _ p.1, all_to word p.0), is_less _ _ p.2))

told : {E : Type 0} (word : Text) (r : Result ℕ E) → OkIff r (IsNumeral 16 word × (digits_value 16 word < 2 ^ 64)) (digits_value 16 word) → result_ok r ≡ hex_of word
told word (Ok x) h =
    let number : is_hex word ≡ true = both _ _ _ (all_from word h.0.0.1) (is_true _ _ h.0.0.0) (is_true _ _ h.0.1) in
    ap Some h.1 ∙ sym (by_test word true number)
told word (Err e) h = sym (by_test word false (no_other word (is_hex word) refl h))

pub parsed : {E : Type 0} (word : Text) (r : Result ℕ E) → first_of word ≢ 43 → ParsesUnsigned 64 16 word r → result_ok r ≡ hex_of word
parsed word r h read = told word r (rw (without_leading_plus_none word (not_plus word h)) at read)

-- ---- what is written in hex digits

abbrev pub hex_text : ℕ → Text
hex_text n = digits 16 false n

written : (n : ℕ) → n < 2 ^ 64 → IsNumeral 16 (hex_text n) × (digits_value 16 (hex_text n) ≡ n)
written n h = digits_is_IsNumeral 16 false (omega arith) (omega arith) n (omega arith)

pub hex_digits : (n : ℕ) → n < 2 ^ 64 → all_hex_digits (hex_text n) ≡ true
hex_digits n h = all_from (hex_text n) (written n h).0.1

pub hex_back : (n : ℕ) → n < 2 ^ 64 → hex_of (hex_text n) ≡ Some n
hex_back n h =
    let w = written n h in
    let below : digits_value 16 (hex_text n) < 2 ^ 64 = rw w.1 h in
    let number : is_hex (hex_text n) ≡ true = both _ _ _ (hex_digits n h) (is_true _ _ w.0.0) (is_true _ _ below) in
    by_test (hex_text n) true number ∙ ap Some w.1
