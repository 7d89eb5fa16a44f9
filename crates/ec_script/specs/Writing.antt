-- How a line is written, and that it is read back (this project's profile).
use Rattle.std.specs.Prelude.{ℕ, ◌<◌, ◌≤◌, ◌≡◌, ◌≢◌, ◌/◌, ◌%◌, ◌^◌, ◌==◌, List, [], ◌∷◌, ◌++◌, length, Bool, true, false, if◌then◌else◌, Option, Some, None, bit_and, slice_get, codes}
use Rattle.std.specs.Char.{digit_char}
use Rattle.std.specs.Fmt.{decimal, digits, signed_decimal}
use Rattle.ec_al.specs.declared.state.State.{State}
use Rattle.ec_al.specs.declared.state.State.TheVariants.{Init, PreOp, SafeOp, Op}
use Rattle.ec_table.specs.Contents.{Contents}
use Rattle.ec_table.specs.Numbers.{number_at}
use Rattle.ec_table.specs.Sound as table
use Rattle.ec_table.specs.declared.rows.VariableRow.{VariableRow}
use Rattle.ec_script.specs.declared.expectation.Expectation.{Expectation}
use Rattle.ec_script.specs.declared.expectation.Expectation.TheVariants as expects
use Rattle.ec_script.specs.declared.value_test.Comparison.{Comparison}
use Rattle.ec_script.specs.declared.value_test.Comparison.TheVariants.{Equal, Unequal, Less, LessEqual, Greater, GreaterEqual}
use Rattle.ec_script.specs.declared.value_test.ValueTest.{ValueTest}
use Rattle.ec_script.specs.declared.value_test.ValueTest.TheVariants.{Compared, Masked, Between}
use Rattle.ec_script.specs.declared.line.LineAction.{LineAction}
use Rattle.ec_script.specs.declared.line.LineAction.TheVariants.{Start, Set, Begin, Pass, Lose, LosePart, Return, Close, Serve, Put, Get, Fail, Reset, Input, Never, Expect, Ready, Cycle, Within, Show, ShowVariable, Output, Served, Report, States, Stop}
use Rattle.ec_script.specs.declared.line.Line.{Line}
use Rattle.ec_script.specs.declared.read.Reading.TheVariants as reading
use Rattle.ec_script.specs.Words.{Text}
use Rattle.ec_script.specs.Scripts.{reading_of}
use Rattle.ec_script.specs.Tasks.{step}

-- ---- words

abbrev pub row_name : Option VariableRow → Text
row_name None = []
row_name (Some row) = row.name

abbrev pub is_signed : Option VariableRow → Bool
is_signed None = false
is_signed (Some row) = row.signed

-- the bits of a number in hex digits
abbrev pub hex_word : ℕ → Text
hex_word n = codes "0x" ++ digits 16 false n

-- a value of a variable, by its bits if the variable is signed
abbrev pub value_word : (signed : Bool) → ℕ → Text
value_word false x = decimal x
value_word true x = hex_word x

-- below each number that 64 bits hold
abbrev pub below_all : Text
below_all = codes "-9223372036854775809"

abbrev pub state_name : State → Text
state_name Init = codes "INIT"
state_name PreOp = codes "PREOP"
state_name SafeOp = codes "SAFEOP"
state_name Op = codes "OP"

abbrev pub taken_word : Bool → Text
taken_word true = codes "taken"
taken_word false = codes "untaken"

-- four hex digits, the highest first
abbrev pub code_word : ℕ → Text
code_word n = digit_char (n / 4096) ∷ digit_char (n / 256 % 16) ∷ digit_char (n / 16 % 16) ∷ digit_char (n % 16) ∷ []

abbrev pub code_words : Option ℕ → List Text
code_words None = []
code_words (Some code) = code_word code ∷ []

abbrev pub number_words : Option ℕ → List Text
number_words None = []
number_words (Some n) = decimal n ∷ []

-- ---- tests

abbrev pub sign_word : Comparison → Text
sign_word Equal = codes "=="
sign_word Unequal = codes "!="
sign_word Less = codes "<"
sign_word LessEqual = codes "<="
sign_word Greater = codes ">"
sign_word GreaterEqual = codes ">="

abbrev pub masked_word : Bool → Text
masked_word true = codes "=="
masked_word false = codes "!="

abbrev pub range_word : (signed : Bool) → ℕ → ℕ → Text
range_word signed low high = value_word signed low ++ (46 ∷ 46 ∷ value_word signed high)

abbrev pub test_words : (signed : Bool) → ValueTest → List Text
test_words signed (Compared c n) = sign_word c ∷ value_word signed n ∷ []
test_words signed (Masked mask is n) = codes "&" ∷ decimal mask ∷ masked_word is ∷ decimal n ∷ []
test_words signed (Between low high) = range_word signed low high ∷ []

-- ---- actions

abbrev pub words_expecting : List VariableRow → Expectation → List Text
words_expecting variables (expects.Is v x) = row_name (slice_get variables v) ∷ value_word (is_signed (slice_get variables v)) x ∷ []
words_expecting variables (expects.Holds v test) = row_name (slice_get variables v) ∷ test_words (is_signed (slice_get variables v)) test
words_expecting variables (expects.Never v) = row_name (slice_get variables v) ∷ below_all ∷ []
words_expecting variables (expects.Units taken) = taken_word taken ∷ []
words_expecting variables (expects.Unit u taken) = taken_word taken ∷ decimal u ∷ []
words_expecting variables (expects.State s state code) = codes "state" ∷ decimal s ∷ state_name state ∷ code_words code
words_expecting variables expects.Ready = codes "ready" ∷ []
words_expecting variables (expects.Failed number) = codes "failed" ∷ number_words number

abbrev pub words_for : List VariableRow → LineAction → List Text
words_for variables Start = codes "start" ∷ []
words_for variables (Set v x) = codes "set" ∷ row_name (slice_get variables v) ∷ value_word (is_signed (slice_get variables v)) x ∷ []
words_for variables Begin = codes "begin" ∷ []
words_for variables (Pass k) = codes "pass" ∷ decimal k ∷ []
words_for variables (Lose k) = codes "lose" ∷ decimal k ∷ []
words_for variables (LosePart n k) = codes "lose" ∷ decimal n ∷ codes "part" ∷ decimal k ∷ []
words_for variables (Return k) = codes "return" ∷ decimal k ∷ []
words_for variables Close = codes "close" ∷ []
words_for variables (Serve s) = codes "serve" ∷ decimal s ∷ []
words_for variables (Put s i x) = codes "put" ∷ decimal s ∷ decimal i ∷ decimal x ∷ []
words_for variables (Get s i) = codes "get" ∷ decimal s ∷ decimal i ∷ []
words_for variables (Fail s) = codes "fault" ∷ decimal s ∷ []
words_for variables (Reset s) = codes "reset" ∷ decimal s ∷ []
words_for variables (Input v x) = codes "in" ∷ row_name (slice_get variables v) ∷ value_word (is_signed (slice_get variables v)) x ∷ []
words_for variables (Never v) = codes "set" ∷ row_name (slice_get variables v) ∷ below_all ∷ []
words_for variables (Expect e) = codes "expect" ∷ words_expecting variables e
words_for variables Ready = codes "ready" ∷ []
words_for variables Cycle = codes "cycle" ∷ []
words_for variables (Within n e) = codes "within" ∷ decimal n ∷ codes "expect" ∷ words_expecting variables e
words_for variables Show = codes "show" ∷ []
words_for variables (ShowVariable v) = codes "show" ∷ row_name (slice_get variables v) ∷ []
words_for variables (Output v) = codes "out" ∷ row_name (slice_get variables v) ∷ []
words_for variables Served = codes "served" ∷ []
words_for variables Report = codes "report" ∷ []
words_for variables States = codes "states" ∷ []
words_for variables Stop = codes "stop" ∷ []

-- a step, by whether the line expects `no`
abbrev pub words_for_step : List VariableRow → Bool → LineAction → List Text
words_for_step variables false action = words_for variables action
words_for_step variables true action = codes "expect" ∷ codes "no" ∷ words_for variables action

-- a step that is done once stands alone
abbrev pub words_for_line : List VariableRow → ℕ → Bool → LineAction → List Text
words_for_line variables times expects_no action =
    if times == 1 then words_for_step variables expects_no action else codes "repeat" ∷ decimal times ∷ words_for_step variables expects_no action

-- with a blank between them
abbrev pub joined_words : List Text → Text
joined_words [] = []
joined_words (word ∷ []) = word
joined_words (word ∷ next ∷ words) = word ++ (32 ∷ joined_words (next ∷ words))

-- ---- what can be written

-- a number of 64 bits
abbrev pub IsWord64 : ℕ → Type 0
IsWord64 n = n < 2 ^ 64

-- `expect` has words of its own, behind which no variable's value stands
abbrev pub IsOtherWord : Text → Type 0
IsOtherWord name = (name ≢ codes "no") × (name ≢ codes "taken") × (name ≢ codes "untaken") × (name ≢ codes "failed")

abbrev pub IsExpectedVariable : List VariableRow → ℕ → Type 0
IsExpectedVariable variables v = (v < length variables) × IsOtherWord (row_name (slice_get variables v))

abbrev pub IsCode : Option ℕ → Type 0
IsCode None = Unit {0}
IsCode (Some code) = code < 2 ^ 16

abbrev pub IsNumber : Option ℕ → Type 0
IsNumber None = Unit {0}
IsNumber (Some n) = IsWord64 n

abbrev pub row_bits : Option VariableRow → ℕ
row_bits None = 0
row_bits (Some row) = row.bits

-- numbers that a variable's bits hold, with no bit outside a mask; and by its name, as `expect` has words of its own
abbrev pub IsTestOf : (name : Text) → (bits : ℕ) → ValueTest → Type 0
IsTestOf name bits (Compared c n) = (name ≢ codes "no") × (n < 2 ^ bits)
IsTestOf name bits (Masked mask is n) = (name ≢ codes "no") × (mask < 2 ^ bits) × (n < 2 ^ bits) × (bit_and n mask ≡ n)
IsTestOf name bits (Between low high) = IsOtherWord name × (low < 2 ^ bits) × (high < 2 ^ bits)

abbrev pub IsExpectationOf : List VariableRow → Expectation → Type 0
IsExpectationOf variables (expects.Is v x) = IsExpectedVariable variables v × IsWord64 x
IsExpectationOf variables (expects.Holds v test) = (v < length variables) × IsTestOf (row_name (slice_get variables v)) (row_bits (slice_get variables v)) test
IsExpectationOf variables (expects.Never v) = IsExpectedVariable variables v
IsExpectationOf variables (expects.Units taken) = Unit {0}
IsExpectationOf variables (expects.Unit u taken) = IsWord64 u
IsExpectationOf variables (expects.State s state code) = IsWord64 s × IsCode code
IsExpectationOf variables expects.Ready = Unit {0}
IsExpectationOf variables (expects.Failed number) = IsNumber number

-- a variable that there is, numbers of 64 bits, and a byte
abbrev pub IsActionOf : List VariableRow → LineAction → Type 0
IsActionOf variables Start = Unit {0}
IsActionOf variables (Set v x) = (v < length variables) × IsWord64 x
IsActionOf variables Begin = Unit {0}
IsActionOf variables (Pass k) = IsWord64 k
IsActionOf variables (Lose k) = IsWord64 k
IsActionOf variables (LosePart n k) = IsWord64 n × IsWord64 k
IsActionOf variables (Return k) = IsWord64 k
IsActionOf variables Close = Unit {0}
IsActionOf variables (Serve s) = IsWord64 s
IsActionOf variables (Put s i x) = IsWord64 s × IsWord64 i × (x < 256)
IsActionOf variables (Get s i) = IsWord64 s × IsWord64 i
IsActionOf variables (Fail s) = IsWord64 s
IsActionOf variables (Reset s) = IsWord64 s
IsActionOf variables (Input v x) = (v < length variables) × IsWord64 x
IsActionOf variables (Never v) = v < length variables
IsActionOf variables (Expect e) = IsExpectationOf variables e
IsActionOf variables Ready = Unit {0}
IsActionOf variables Cycle = Unit {0}
IsActionOf variables (Within n e) = (1 ≤ n) × (n ≤ 1000000) × IsExpectationOf variables e
IsActionOf variables Show = Unit {0}
IsActionOf variables (ShowVariable v) = v < length variables
IsActionOf variables (Output v) = v < length variables
IsActionOf variables Served = Unit {0}
IsActionOf variables Report = Unit {0}
IsActionOf variables States = Unit {0}
IsActionOf variables Stop = Unit {0}

-- an action that can be written, once or more often
pub record IsLineOf (variables : List VariableRow) (times : ℕ) (action : LineAction) : Type 0 where
  pub some : 1 ≤ times
  pub most : times ≤ 1000000
  pub written : IsActionOf variables action

-- The line that is written for an action of a table's script, or for that it can't be done, is read as that line.
abbrev pub LinesReadBack : Type 0
LinesReadBack =
    (t : Contents) (n times : ℕ) (expects_no : Bool) (action : LineAction) → table.IsSound t → IsLineOf t.variables times action
    → reading_of t n (joined_words (words_for_line t.variables times expects_no action)) ≡ reading.Line (record { number = n; times = times; tasks = step n expects_no action ∷ [] })

-- ---- printed numbers

-- a verb, a variable and the number that a value of it is printed as
abbrev pub line_printed : Contents → Text → ℕ → ℕ → Text
line_printed t verb v x = joined_words (verb ∷ row_name (slice_get t.variables v) ∷ signed_decimal (number_at t v x) ∷ [])

abbrev pub once : ℕ → LineAction → Line
once n action = record { number = n; times = 1; tasks = step n false action ∷ [] }

-- The number that a variable's value is printed as is read as that value.
abbrev pub PrintedIsRead : Type 0
PrintedIsRead =
    (t : Contents) (n v x : ℕ) → table.IsSound t → v < length t.variables → x < 2 ^ row_bits (slice_get t.variables v)
    → (reading_of t n (line_printed t (codes "set") v x) ≡ reading.Line (once n (Set v x)))
    × (reading_of t n (line_printed t (codes "in") v x) ≡ reading.Line (once n (Input v x)))
    × (IsOtherWord (row_name (slice_get t.variables v)) → reading_of t n (line_printed t (codes "expect") v x) ≡ reading.Line (once n (Expect (expects.Is v x))))
