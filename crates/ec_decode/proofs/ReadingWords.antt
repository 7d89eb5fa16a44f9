-- What is written of a word is read back.
use Rattle.std.proofs.Common.{◌≡◌, ◌∙◌, ℕ, suc, zero, ◌+◌, ◌*◌, ◌/◌, ◌%◌, ◌<◌, ◌^◌, ◌==◌, ◌&&◌, List, [], ◌∷◌, ◌++◌, length, get_or, drop, append_assoc, if◌then◌else◌, Bool, true, false, nat_lt, Some, All, codes, refl, sym, ap, arith}
use Rattle.std.specs.Fmt.{decimal}
use Rattle.std.specs.List.{AllByRecursion, AllPass, after_first, before_first, list_all, position_or_len}
use Rattle.std.specs.Char.{is_ascii_digit}
use Rattle.std.specs.Str.{all_ascii_digits, bytes_eq}
use Rattle.std.specs.Str.Parse.{digits_value}
use Rattle.std.proofs.lemmas.Bool.Decides.{nat_tests}
use Rattle.std.proofs.lemmas.Fmt.{decimal_nonempty, digits_decimal, digits_value-decimal}
use Rattle.std.proofs.lemmas.List.{drop_at, take_at, length-append}
use Rattle.std.proofs.lemmas.List.Elements.{All-nil, All-cons, All-head, All-tail}
use Rattle.byteorder.specs.Endian.{big_bytes, big_number}
use Rattle.hex.specs.Hex.{IsBytes, encode_lower, is_hex_digit, lower_digits}
use Rattle.hex.proofs.HexLemmas.{IsDigits-lower_digits, decode_of-encode_lower, decode_pairs-encode_with, decode_pairs-ok, decode_sized-encode_lower, length-encode_with}
use Rattle.ec_frame.specs.declared.command.Command.{Command}
use Rattle.ec_frame.specs.declared.command.Command.TheVariants.{Nop, Aprd, Apwr, Aprw, Fprd, Fpwr, Fprw, Brd, Bwr, Brw, Lrd, Lwr, Lrw, Armw, Frmw}
use Rattle.ec_decode.specs.FrameText.{Text, address_words, byte_text, command_name, data_text, is_logical, long_text, word_text}
use Rattle.ec_decode.specs.Words.{address_in, bits_in, bytes_in, command_in, counter_in, data_in, hex_in, is_number, number_in, physical_in}
use Rattle.ec_decode.proofs.Numbers.{both, by_test, digits, is_less, is_true}
use Rattle.ec_decode.proofs.Verbs.{differ}

-- ---- numbers

is_number_of : (n : ℕ) → n < 2 ^ 64 → is_number (decimal n) ≡ true
is_number_of n h =
    let value : digits_value 10 (decimal n) ≡ n = digits_value-decimal digits n h in
    let below : digits_value 10 (decimal n) < 2 ^ 64 = rw value h in
    both _ _ _ (digits_decimal digits n h) (is_true _ _ (decimal_nonempty n h)) (is_true _ _ below)

pub number_back : (n : ℕ) → n < 2 ^ 64 → number_in (decimal n) ≡ Some n
number_back n h = by_test (decimal n) true (is_number_of n h) ∙ ap Some (digits_value-decimal digits n h)

pub counter_back : (n : ℕ) → n < 65536 → counter_in (decimal n) ≡ Some n
unfolding counter_in
counter_back n h = let t : nat_lt n 65536 ≡ true = is_true n 65536 h in rw (number_back n (omega arith), t) refl

pub bits_back : (n : ℕ) → n < 8 → bits_in (decimal n) ≡ Some n
unfolding bits_in
bits_back n h = let t : nat_lt n 8 ≡ true = is_true n 8 h in rw (number_back n (omega arith), t) refl

-- ---- hex

-- bytes, said by recursion and by place
pub bytes_at : (bytes : List ℕ) → AllByRecursion (λ b. b < 256) bytes → IsBytes bytes
bytes_at [] h i = omega arith
bytes_at (b ∷ bytes) h zero = h.0
bytes_at (b ∷ bytes) h (suc i) = bytes_at bytes h.1 i

big_back : (size n : ℕ) (bytes : List ℕ) → length bytes ≡ size → AllByRecursion (λ b. b < 256) bytes → big_number size bytes ≡ n → hex_in size (encode_lower bytes) ≡ Some n
big_back size n bytes long fits is = rw (decode_sized-encode_lower bytes size long (bytes_at bytes fits)) (ap Some is)

pub byte_back : (n : ℕ) → n < 256 → hex_in 1 (byte_text n) ≡ Some n
byte_back n h = big_back 1 n (big_bytes 1 n) refl (omega arith, tt) (omega arith)

pub word_back : (n : ℕ) → n < 65536 → hex_in 2 (word_text n) ≡ Some n
word_back n h = big_back 2 n (big_bytes 2 n) refl (omega arith, (omega arith, tt)) (omega arith)

pub long_back : (n : ℕ) → n < 2 ^ 32 → hex_in 4 (long_text n) ≡ Some n
long_back n h = big_back 4 n (big_bytes 4 n) refl (omega arith, (omega arith, (omega arith, (omega arith, tt)))) (omega arith)

-- ---- bytes

some_text : (b : ℕ) (bytes : List ℕ) → (length (encode_lower (b ∷ bytes)) == 0) ≡ false
some_text b bytes = let e = length-encode_with lower_digits (b ∷ bytes) in grind (arith, nat_tests)

pub bytes_back : (b : ℕ) (bytes : List ℕ) → IsBytes (b ∷ bytes) → bytes_in (encode_lower (b ∷ bytes)) ≡ Some (b ∷ bytes)
unfolding bytes_in
bytes_back b bytes fits = rw (some_text b bytes, decode_of-encode_lower (b ∷ bytes) fits) refl

-- hex digits are no dash, which is one byte
no_dash : (b : ℕ) (bytes : List ℕ) → bytes_eq (encode_lower (b ∷ bytes)) (codes "-") ≡ false
no_dash b bytes = differ (encode_lower (b ∷ bytes)) (codes "-") (λ e. let long = length-encode_with lower_digits (b ∷ bytes) in absurd (omega (arith, ap length e)))

pub data_back : (bytes : List ℕ) → IsBytes bytes → data_in (data_text bytes) ≡ Some bytes
unfolding data_in
data_back [] fits = refl
data_back (b ∷ bytes) fits = rw (no_dash b bytes) (bytes_back b bytes fits)

-- ---- commands and addresses

pub command_back : (c : Command) → command_in (command_name c) ≡ Some c
unfolding command_in
command_back Nop = refl
command_back Aprd = refl
command_back Apwr = refl
command_back Aprw = refl
command_back Fprd = refl
command_back Fpwr = refl
command_back Fprw = refl
command_back Brd = refl
command_back Bwr = refl
command_back Brw = refl
command_back Lrd = refl
command_back Lwr = refl
command_back Lrw = refl
command_back Armw = refl
command_back Frmw = refl

-- ---- what words are made of

-- bytes that aren't blanks
abbrev pub IsWord : Text → Type 0
IsWord word = All (λ b. 32 < b) word

all_more : (P Q : ℕ → Type 0) → ((b : ℕ) → P b → Q b) → (word : Text) → All P word → All Q word
all_more P Q f word h = λ i d lt. f (get_or word i d) (h i d lt)

hex_digit_word : (b : ℕ) → is_hex_digit b ≡ true → 32 < b
hex_digit_word b h = grind (arith, nat_tests)

hex_digits : (bytes : List ℕ) → IsBytes bytes → AllPass is_hex_digit (encode_lower bytes)
hex_digits bytes fits = (decode_pairs-ok 0 (encode_lower bytes) bytes (decode_pairs-encode_with lower_digits IsDigits-lower_digits 0 bytes fits)).0

pub hex_word : (bytes : List ℕ) → IsBytes bytes → IsWord (encode_lower bytes)
hex_word bytes fits = all_more (λ b. is_hex_digit b ≡ true) (λ b. 32 < b) hex_digit_word (encode_lower bytes) (hex_digits bytes fits)

both_of : (a b : Bool) → (a && b) ≡ true → (a ≡ true) × (b ≡ true)
both_of true true h = (refl, refl)
both_of true false h = cc
both_of false b h = cc

digit_word : (b : ℕ) → is_ascii_digit b ≡ true → 32 < b
digit_word b h = grind (arith, nat_tests)

digits_word : (word : Text) → all_ascii_digits word ≡ true → IsWord word
digits_word [] h = All-nil (λ b. 32 < b)
digits_word (b ∷ bs) h =
    let p = both_of (is_ascii_digit b) (all_ascii_digits bs) h in
    All-cons (λ b. 32 < b) b bs (digit_word b p.0) (digits_word bs p.1)

pub number_word : (n : ℕ) → n < 2 ^ 64 → IsWord (decimal n)
number_word n h = digits_word (decimal n) (digits_decimal digits n h)

-- a word that is written out
pub verb_word : (word : Text) → list_all (λ b. nat_lt 32 b) word ≡ true → IsWord word
verb_word [] h = All-nil (λ b. 32 < b)
verb_word (b ∷ bs) h =
    let p = both_of (nat_lt 32 b) (list_all (λ b. nat_lt 32 b) bs) h in
    All-cons (λ b. 32 < b) b bs (is_less 32 b p.0) (verb_word bs p.1)

pub append_all : (P : ℕ → Type 0) (xs ys : Text) → All P xs → All P ys → All P (xs ++ ys)
append_all P [] ys f g = g
append_all P (x ∷ xs) ys f g = All-cons P x (xs ++ ys) (All-head P x xs f) (append_all P xs ys (All-tail P x xs f) g)

-- ---- a byte that a text lacks

abbrev pub Lacks : ℕ → Text → Type 0
Lacks c word = All (λ b. (b == c) ≡ false) word

no_colon : (b : ℕ) → is_hex_digit b ≡ true → (b == 58) ≡ false
no_colon b h = grind (arith, nat_tests)

-- ---- addresses

-- the first of a byte in a text that lacks it before
first_at : (c : ℕ) (xs ys : Text) → Lacks c xs → position_or_len (λ b. b == c) (xs ++ c ∷ ys) ≡ length xs
first_at c [] ys h = let t : (c == c) ≡ true = grind (arith, nat_tests) in rw t refl
first_at c (x ∷ xs) ys h =
    let f : (x == c) ≡ false = All-head (λ b. (b == c) ≡ false) x xs h in
    let e = first_at c xs ys (All-tail (λ b. (b == c) ≡ false) x xs h) in
    rw f (omega (arith, e))

pub before_first_at : (c : ℕ) (xs ys : Text) → Lacks c xs → before_first (λ b. b == c) (xs ++ c ∷ ys) ≡ xs
before_first_at c xs ys h = rw (first_at c xs ys h) (take_at xs (c ∷ ys) (length xs) refl)

pub after_first_at : (c : ℕ) (xs ys : Text) → Lacks c xs → after_first (λ b. b == c) (xs ++ c ∷ ys) ≡ ys
after_first_at c xs ys h =
    let again : xs ++ c ∷ ys ≡ (xs ++ c ∷ []) ++ ys = sym (append_assoc xs (c ∷ []) ys) in
    rw (first_at c xs ys h) (ap (λ (zs : Text). drop (length xs + 1) zs) again ∙ drop_at (xs ++ c ∷ []) ys (length xs + 1) (omega (arith, length-append xs (c ∷ []))))

two_bytes : (n : ℕ) → IsBytes (big_bytes 2 n)
two_bytes n = bytes_at (big_bytes 2 n) (omega arith, (omega arith, tt))

four_bytes : (n : ℕ) → IsBytes (big_bytes 4 n)
four_bytes n = bytes_at (big_bytes 4 n) (omega arith, (omega arith, (omega arith, (omega arith, tt))))

halves_again : (n : ℕ) → n % 65536 + 65536 * (n / 65536) ≡ n
halves_again n = omega arith

pub physical_back : (n : ℕ) → n < 2 ^ 32 → physical_in (word_text (n % 65536) ++ 58 ∷ word_text (n / 65536)) ≡ Some n
unfolding physical_in
physical_back n h =
    let low = word_text (n % 65536) in
    let high = word_text (n / 65536) in
    let lacks = all_more (λ b. is_hex_digit b ≡ true) (λ b. (b == 58) ≡ false) no_colon low (hex_digits (big_bytes 2 (n % 65536)) (two_bytes (n % 65536))) in
    rw (before_first_at 58 low high lacks, after_first_at 58 low high lacks, word_back (n % 65536) (omega arith), word_back (n / 65536) (omega arith)) (ap Some (halves_again n))

-- the two words of an address
abbrev pub how_word : Command → Text
how_word c = if is_logical c then codes "logical" else codes "at"

abbrev pub where_word : Command → ℕ → Text
where_word c n = if is_logical c then long_text n else word_text (n % 65536) ++ 58 ∷ word_text (n / 65536)

pub address_words_are : (c : Command) (n : ℕ) → address_words c n ≡ how_word c ∷ where_word c n ∷ []
address_words_are c n = by (is_logical c)
  where
    by : (b : Bool)
        → (if b then codes "logical" ∷ long_text n ∷ [] else codes "at" ∷ (word_text (n % 65536) ++ 58 ∷ word_text (n / 65536)) ∷ [])
        ≡ (if b then codes "logical" else codes "at") ∷ (if b then long_text n else word_text (n % 65536) ++ 58 ∷ word_text (n / 65536)) ∷ []
    by true = refl
    by false = refl

pub address_back : (c : Command) (n : ℕ) → n < 2 ^ 32 → address_in c (how_word c) (where_word c n) ≡ Some n
unfolding address_in
address_back c n h = by (is_logical c) refl
  where
    by : (b : Bool) → is_logical c ≡ b → address_in c (how_word c) (where_word c n) ≡ Some n
    by true e = rw e (long_back n h)
    by false e = rw e (physical_back n h)

pub how_is_word : (c : Command) → IsWord (how_word c)
how_is_word c = by (is_logical c)
  where
    by : (b : Bool) → IsWord (if b then codes "logical" else codes "at")
    by true = verb_word (codes "logical") refl
    by false = verb_word (codes "at") refl

pub where_is_word : (c : Command) (n : ℕ) → IsWord (where_word c n)
where_is_word c n = by (is_logical c)
  where
    by : (b : Bool) → IsWord (if b then long_text n else word_text (n % 65536) ++ 58 ∷ word_text (n / 65536))
    by true = hex_word (big_bytes 4 n) (four_bytes n)
    by false =
        append_all (λ b. 32 < b) (word_text (n % 65536)) (58 ∷ word_text (n / 65536)) (hex_word (big_bytes 2 (n % 65536)) (two_bytes (n % 65536)))
        (All-cons (λ b. 32 < b) 58 (word_text (n / 65536)) (omega arith) (hex_word (big_bytes 2 (n / 65536)) (two_bytes (n / 65536))))

pub command_word : (c : Command) → IsWord (command_name c)
command_word Nop = verb_word (codes "NOP") refl
command_word Aprd = verb_word (codes "APRD") refl
command_word Apwr = verb_word (codes "APWR") refl
command_word Aprw = verb_word (codes "APRW") refl
command_word Fprd = verb_word (codes "FPRD") refl
command_word Fpwr = verb_word (codes "FPWR") refl
command_word Fprw = verb_word (codes "FPRW") refl
command_word Brd = verb_word (codes "BRD") refl
command_word Bwr = verb_word (codes "BWR") refl
command_word Brw = verb_word (codes "BRW") refl
command_word Lrd = verb_word (codes "LRD") refl
command_word Lwr = verb_word (codes "LWR") refl
command_word Lrw = verb_word (codes "LRW") refl
command_word Armw = verb_word (codes "ARMW") refl
command_word Frmw = verb_word (codes "FRMW") refl

pub byte_word : (n : ℕ) → IsWord (byte_text n)
byte_word n = hex_word (big_bytes 1 n) (bytes_at (big_bytes 1 n) (omega arith, tt))

pub word_word : (n : ℕ) → IsWord (word_text n)
word_word n = hex_word (big_bytes 2 n) (two_bytes n)

pub data_word : (bytes : List ℕ) → IsBytes bytes → IsWord (data_text bytes)
data_word [] fits = verb_word (codes "-") refl
data_word (b ∷ bytes) fits = hex_word (b ∷ bytes) fits
