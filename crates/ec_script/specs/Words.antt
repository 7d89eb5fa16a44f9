-- The words of a line, and the numbers and values that words write (this project's profile).
use Rattle.std.specs.Prelude.{ℕ, ◌+◌, ◌-◌, ◌^◌, ◌==◌, ◌&&◌, List, [], ◌∷◌, length, take, drop, nat_lt, nat_le, position, slice_index, Bool, true, if◌then◌else◌, Option, Some, None, is_some, option_and_then, option_map, codes}
use Rattle.std.specs.Char.{digit_value}
use Rattle.std.specs.List.{slice_split}
use Rattle.std.specs.Str.{all_ascii_digits, bytes_eq}
use Rattle.std.specs.Str.Parse.{digits_value}
use Rattle.ec_script.specs.declared.value.WrittenValue.{WrittenValue}
use Rattle.ec_script.specs.declared.value.WrittenValue.TheVariants.{Number, Outside}

abbrev pub Text : Type 0
Text = List ℕ

-- ---- blanks and comments

-- without the blanks at its beginning
unfoldable pub without_start_blanks : Text → Text
without_start_blanks [] = []
without_start_blanks (c ∷ cs) = if c == 32 then without_start_blanks cs else c ∷ cs

-- a byte before what is left of the bytes behind it: a blank with nothing behind it is left out
abbrev pub before_kept : ℕ → Text → Text
before_kept c [] = if c == 32 then [] else c ∷ []
before_kept c (d ∷ ds) = c ∷ d ∷ ds

-- without the blanks at its end
unfoldable pub without_end_blanks : Text → Text
without_end_blanks [] = []
without_end_blanks (c ∷ cs) = before_kept c (without_end_blanks cs)

abbrev pub cut_at : Text → Option ℕ → Text
cut_at line None = line
cut_at line (Some place) = without_end_blanks (take place line)

-- without its comment, which begins at the first `#`, and without the blanks before that
abbrev pub uncommented : Text → Text
uncommented line = cut_at line (position (λ b. b == 35) line)

-- ---- words

-- they stand between single blanks, so there is an empty one beside a blank too many
abbrev pub words_of : Text → List Text
words_of line = slice_split (λ b. b == 32) line

-- ---- numbers

-- one decimal digit or more, with no sign, of a number below 2^64
abbrev pub is_number : Text → Bool
is_number word = all_ascii_digits word && (nat_lt 0 (length word) && nat_lt (digits_value 10 word) (2 ^ 64))

unfoldable pub number_of : Text → Option ℕ
number_of word = if is_number word then Some (digits_value 10 word) else None

unfoldable pub byte_of : Text → Option ℕ
byte_of word = option_and_then (λ n. if nat_lt n 256 then Some n else None) (number_of word)

-- the count behind `repeat`
unfoldable pub times_of : Text → Option ℕ
times_of word = option_and_then (λ n. if nat_le 1 n && nat_le n 1000000 then Some n else None) (number_of word)

abbrev pub all_hex_digits : Text → Bool
all_hex_digits [] = true
all_hex_digits (c ∷ cs) = nat_lt (digit_value c) 16 && all_hex_digits cs

-- one hex digit or more, of a number below 2^64
abbrev pub is_hex : Text → Bool
is_hex word = all_hex_digits word && (nat_lt 0 (length word) && nat_lt (digits_value 16 word) (2 ^ 64))

unfoldable pub hex_of : Text → Option ℕ
hex_of word = if is_hex word then Some (digits_value 16 word) else None

-- four hex digits
unfoldable pub code_of : Text → Option ℕ
code_of word = if length word == 4 then option_and_then (λ n. if nat_lt n (2 ^ 16) then Some n else None) (hex_of word) else None

-- ---- two words in one

abbrev pub behind_dot : Text → Text → Option (Text × Text)
behind_dot low [] = None
behind_dot low (c ∷ cs) = if c == 46 then Some (low, cs) else None

abbrev pub round_dots : Text → Option ℕ → Option (Text × Text)
round_dots word None = None
round_dots word (Some place) = behind_dot (take place word) (drop (place + 1) word)

-- what stands before and behind the first `.` of a word, if it is two of them
abbrev pub bounds_of : Text → Option (Text × Text)
bounds_of word = round_dots word (position (λ b. b == 46) word)

abbrev pub is_range : Text → Bool
is_range word = is_some (bounds_of word)

-- ---- values

-- a number below 0 by its two's complement in this many bits, if they have one
abbrev pub negative_of : ℕ → ℕ → WrittenValue
negative_of bits n = if n == 0 then Number 0 else (if nat_le n (2 ^ (bits - 1)) then Number (2 ^ bits - n) else Outside)

-- another number; with a sign, this many bits have none from half of their values on
abbrev pub positive_of : (signed : Bool) → ℕ → ℕ → WrittenValue
positive_of signed bits n = if signed && nat_le (2 ^ (bits - 1)) n then Outside else Number n

-- what a word without a sign writes: a number in decimal, or bits as `0x` and hex digits
unfoldable pub plain_of : (signed : Bool) → ℕ → Text → Option WrittenValue
plain_of signed bits word = if bytes_eq (take 2 word) (codes "0x") then option_map Number (hex_of (drop 2 word)) else option_map (positive_of signed bits) (number_of word)

-- the value that a word writes for this many bits, of a variable that is signed or not
unfoldable pub value_of : (signed : Bool) → ℕ → Text → Option WrittenValue
value_of signed bits word = if slice_index word 0 == 45 then option_map (negative_of bits) (number_of (drop 1 word)) else plain_of signed bits word

-- the number that is written, if this many bits hold it
abbrev pub held_in : ℕ → WrittenValue → Option ℕ
held_in bits (Number n) = if nat_lt n (2 ^ bits) then Some n else None
held_in bits Outside = None
