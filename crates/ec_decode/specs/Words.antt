-- The words of a line, and what they write (this project's profile).
use Rattle.std.specs.Prelude.{ℕ, ◌+◌, ◌*◌, ◌^◌, ◌==◌, ◌&&◌, List, [], length, nat_lt, Bool, if◌then◌else◌, Option, Some, None, option_and_then, option_map, codes}
use Rattle.std.specs.List.{after_first, before_first, slice_split}
use Rattle.std.specs.Result.{result_ok}
use Rattle.std.specs.Str.{all_ascii_digits, bytes_eq}
use Rattle.std.specs.Str.Parse.{digits_value}
use Rattle.byteorder.specs.Endian.{big_number}
use Rattle.hex.specs.Hex.{decode_of, decode_sized}
use Rattle.ec_frame.specs.declared.command.Command.{Command}
use Rattle.ec_frame.specs.declared.command.Command.TheVariants.{Nop, Aprd, Apwr, Aprw, Fprd, Fpwr, Fprw, Brd, Bwr, Brw, Lrd, Lwr, Lrw, Armw, Frmw}
use Rattle.ec_decode.specs.FrameText.{Text, is_logical}

infixl 10 ◌>>=◌
abbrev pub ◌>>=◌ : {A B : Type 0} → Option A → (A → Option B) → Option B
o >>= f = option_and_then f o

-- they stand between single blanks, so there is an empty one beside a blank too many
abbrev pub words_of : Text → List Text
words_of line = slice_split (λ b. b == 32) line

-- ---- decimal numbers

-- one decimal digit or more, with no sign, of a number below 2^64
abbrev pub is_number : Text → Bool
is_number word = all_ascii_digits word && (nat_lt 0 (length word) && nat_lt (digits_value 10 word) (2 ^ 64))

unfoldable pub number_in : Text → Option ℕ
number_in word = if is_number word then Some (digits_value 10 word) else None

-- the same of a number below a limit: of a counter, and of three reserved bits
abbrev pub below : ℕ → ℕ → Option ℕ
below limit n = if nat_lt n limit then Some n else None

unfoldable pub counter_in : Text → Option ℕ
counter_in word = number_in word >>= below 65536

unfoldable pub bits_in : Text → Option ℕ
bits_in word = number_in word >>= below 8

-- ---- hex numbers, of either case

-- the number in so many bytes, the highest first
abbrev pub hex_in : ℕ → Text → Option ℕ
hex_in size word = option_map (big_number size) (result_ok (decode_sized word size))

-- ADP, a colon and ADO: the low and the high half of an address
unfoldable pub physical_in : Text → Option ℕ
physical_in word =
    hex_in 2 (before_first (λ b. b == 58) word) >>= (λ adp. hex_in 2 (after_first (λ b. b == 58) word) >>= (λ ado. Some (adp + 65536 * ado)))

-- the two words of an address
unfoldable pub address_in : Command → Text → Text → Option ℕ
address_in command how word =
    if is_logical command
    then (if bytes_eq how (codes "logical") then hex_in 4 word else None)
    else (if bytes_eq how (codes "at") then physical_in word else None)

-- ---- bytes

-- one byte or more
unfoldable pub bytes_in : Text → Option (List ℕ)
bytes_in word = if length word == 0 then None else result_ok (decode_of word)

-- or a dash for none
unfoldable pub data_in : Text → Option (List ℕ)
data_in word = if bytes_eq word (codes "-") then Some [] else bytes_in word

-- ---- commands

unfoldable pub command_in : Text → Option Command
command_in word =
    if bytes_eq word (codes "NOP") then Some Nop else
    (if bytes_eq word (codes "APRD") then Some Aprd else
    (if bytes_eq word (codes "APWR") then Some Apwr else
    (if bytes_eq word (codes "APRW") then Some Aprw else
    (if bytes_eq word (codes "FPRD") then Some Fprd else
    (if bytes_eq word (codes "FPWR") then Some Fpwr else
    (if bytes_eq word (codes "FPRW") then Some Fprw else
    (if bytes_eq word (codes "BRD") then Some Brd else
    (if bytes_eq word (codes "BWR") then Some Bwr else
    (if bytes_eq word (codes "BRW") then Some Brw else
    (if bytes_eq word (codes "LRD") then Some Lrd else
    (if bytes_eq word (codes "LWR") then Some Lwr else
    (if bytes_eq word (codes "LRW") then Some Lrw else
    (if bytes_eq word (codes "ARMW") then Some Armw else
    (if bytes_eq word (codes "FRMW") then Some Frmw else None))))))))))))))
