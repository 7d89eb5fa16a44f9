-- What a script stands for (this project's profile). It is a line for each text that isn't empty without its comment, and again for each
-- round of a block, or the number of the first text that stands for nothing.
use Rattle.std.specs.Prelude.{◌≡◌, ℕ, ◌+◌, ◌*◌, ◌^◌, ◌≤◌, ◌&&◌, List, [], ◌∷◌, ◌++◌, length, replicate, Bool, true, false, if◌then◌else◌, Option, Some, None, is_some, option_map, Result, Ok, Err, codes}
use Rattle.std.specs.List.{flat_map, list_all, list_any}
use Rattle.std.specs.Str.{bytes_eq}
use Rattle.std.specs.Str.Lines.{lines}
use Rattle.ec_table.specs.Contents.{Contents}
use Rattle.ec_script.specs.declared.line.LineAction.{LineAction}
use Rattle.ec_script.specs.declared.line.LineAction.TheVariants.{LosePart, Report, Served}
use Rattle.ec_script.specs.declared.line.Line.{Line}
use Rattle.ec_script.specs.declared.line.Task.{Task}
use Rattle.ec_script.specs.declared.line.Task.TheVariants as task
use Rattle.ec_script.specs.declared.read.Reading.{Reading}
use Rattle.ec_script.specs.declared.read.Reading.TheVariants as reading
use Rattle.ec_script.specs.declared.script.Piece.{Piece}
use Rattle.ec_script.specs.declared.script.Piece.TheVariants as piece
use Rattle.ec_script.specs.declared.draft.PieceReading.{PieceReading}
use Rattle.ec_script.specs.declared.draft.PieceReading.TheVariants as read_as
use Rattle.ec_decode.specs.declared.error.DecodeError.{DecodeError}
use Rattle.ec_decode.specs.declared.error.DecodeError.TheVariants.{Memory, BadScript}
use Rattle.ec_script.specs.Words.{Text, times_of, uncommented, without_start_blanks, words_of}
use Rattle.ec_script.specs.Blocks.{opened, unrolled}
use Rattle.ec_script.specs.Operands.{◌>>=◌}
use Rattle.ec_script.specs.Tasks.{tasks_of}

-- ---- lines

-- line n, whose tasks are done this often
abbrev pub done_times : ℕ → ℕ → Option (List Task) → Option Line
done_times n times tasks = option_map (λ ts. record { number = n; times = times; tasks = ts }) tasks

-- behind `repeat` stand a number and the words of a line
abbrev pub repeated_line : Contents → ℕ → List Text → Option Line
repeated_line t n [] = None
repeated_line t n (count ∷ words) = times_of count >>= (λ times. done_times n times (tasks_of t n words))

-- what words stand for as line n
abbrev pub line_of_words : Contents → ℕ → List Text → Option Line
line_of_words t n [] = None
line_of_words t n (verb ∷ words) = if bytes_eq verb (codes "repeat") then repeated_line t n words else done_times n 1 (tasks_of t n (verb ∷ words))

-- what a text, not empty and without a comment, stands for as line n
abbrev pub line_on : Contents → ℕ → Text → Option Line
line_on t n text = line_of_words t n (words_of text)

-- what the words of line n stand for
abbrev pub found_line : Option Line → Reading
found_line None = reading.Bad
found_line (Some line) = reading.Line line

abbrev pub reading_without : Contents → ℕ → Text → Reading
reading_without t n [] = reading.Empty
reading_without t n (c ∷ cs) = found_line (line_on t n (c ∷ cs))

-- what line n is, by its text: without its comment it may be empty
abbrev pub reading_of : Contents → ℕ → Text → Reading
reading_of t n text = reading_without t n (uncommented text)

-- ---- lines that not every target takes

-- where these actions are taken, a task is
abbrev pub takes_task : (LineAction → Bool) → Task → Bool
takes_task takes (task.Step step) = takes step.action
takes_task takes (task.Echo text) = true

-- and a line, if all of its tasks are
abbrev pub takes_line : (LineAction → Bool) → Line → Bool
takes_line takes line = list_all (takes_task takes) line.tasks

-- what a line is where it is taken or not: one that isn't is bad
abbrev pub taken_if : Bool → Line → Reading
taken_if true line = reading.Line line
taken_if false line = reading.Bad

-- what a line is where only these actions are taken
abbrev pub taken_by : (LineAction → Bool) → Reading → Reading
taken_by takes reading.Empty = reading.Empty
taken_by takes reading.Bad = reading.Bad
taken_by takes (reading.Line line) = taken_if (takes_line takes line) line

-- a segment of simulated slaves takes all actions but `report`, `lose N part P` and `served`
abbrev pub is_simulated : LineAction → Bool
is_simulated Report = false
is_simulated (LosePart n k) = false
is_simulated Served = false
is_simulated _ = true

-- what line n of a script is
abbrev pub script_reading : Contents → ℕ → Text → Reading
script_reading t n text = taken_by is_simulated (reading_of t n text)

-- ---- scripts without blocks

-- line n before what follows it
abbrev pub with_reading : ℕ → Reading → Result (List Line) ℕ → Result (List Line) ℕ
with_reading n reading.Empty rest = rest
with_reading n reading.Bad rest = Err n
with_reading n (reading.Line line) (Ok lines) = Ok (line ∷ lines)
with_reading n (reading.Line line) (Err bad) = Err bad

-- the lines of texts, the first of which has number n
unfoldable pub script_from : Contents → ℕ → List Text → Result (List Line) ℕ
script_from t n [] = Ok []
script_from t n (text ∷ texts) = with_reading n (script_reading t n text) (script_from t (n + 1) texts)

-- ---- blocks

-- `repeat N {` and `}`
abbrev pub brace_of_words : List Text → Option Piece
brace_of_words (word ∷ []) = if bytes_eq word (codes "}") then Some piece.Close else None
brace_of_words (verb ∷ count ∷ brace ∷ []) = if bytes_eq verb (codes "repeat") && bytes_eq brace (codes "{") then option_map piece.Open (times_of count) else None
brace_of_words _ = None

abbrev pub brace_on : Text → Option Piece
brace_on text = brace_of_words (words_of (uncommented text))

-- a brace, or what the line is without blocks
abbrev pub piece_or : Option Piece → Reading → PieceReading
piece_or (Some brace) read = read_as.Piece brace
piece_or None reading.Empty = read_as.Empty
piece_or None reading.Bad = read_as.Bad
piece_or None (reading.Line line) = read_as.Piece (piece.Line line)

-- a line of a block may be indented
abbrev pub unindented : (around : List ℕ) → Text → Text
unindented [] text = text
unindented (m ∷ around) text = without_start_blanks text

-- what line n is where only these actions are taken, by the blocks that are open before it
abbrev pub piece_by : (LineAction → Bool) → Contents → ℕ → (around : List ℕ) → Text → PieceReading
piece_by takes t n around text = piece_or (brace_on (unindented around text)) (taken_by takes (reading_of t n (unindented around text)))

-- what line n of a script is
abbrev pub piece_reading : Contents → ℕ → (around : List ℕ) → Text → PieceReading
piece_reading t n around text = piece_by is_simulated t n around text

-- ---- scripts

abbrev pub before_pieces : Piece → Result (List Piece) ℕ → Result (List Piece) ℕ
before_pieces s (Ok pieces) = Ok (s ∷ pieces)
before_pieces s (Err bad) = Err bad

-- a piece of line n before what follows it, by the blocks that are open behind it, if it may stand there
abbrev pub with_opened : ℕ → Piece → Option (List ℕ) → (rest : List ℕ → Result (List Piece) ℕ) → Result (List Piece) ℕ
with_opened n s None rest = Err n
with_opened n s (Some around) rest = before_pieces s (rest around)

-- line n before what follows it
abbrev pub with_piece : ℕ → (around : List ℕ) → PieceReading → (rest : List ℕ → Result (List Piece) ℕ) → Result (List Piece) ℕ
with_piece n around read_as.Empty rest = rest around
with_piece n around read_as.Bad rest = Err n
with_piece n around (read_as.Piece s) rest = with_opened n s (opened n around s) rest

-- The pieces of texts, the first of which has number n, by the blocks that are open before it. One that is still open at the end is bad.
unfoldable pub pieces_from : Contents → ℕ → List Text → (around : List ℕ) → Result (List Piece) ℕ
pieces_from t n [] [] = Ok []
pieces_from t n [] (m ∷ around) = Err m
pieces_from t n (text ∷ texts) around = with_piece n around (piece_reading t n around text) (λ o. pieces_from t (n + 1) texts o)

abbrev pub unrolled_if : Result (List Piece) ℕ → Result (List Line) ℕ
unrolled_if (Ok pieces) = Ok (unrolled pieces)
unrolled_if (Err bad) = Err bad

-- the lines of a script are counted from 1
abbrev pub script_of : Contents → Text → Result (List Line) ℕ
script_of t text = unrolled_if (pieces_from t 1 (lines text) [])

-- A script without braces is the lines of its texts.
abbrev pub PlainScripts : Type 0
PlainScripts = (t : Contents) (text : Text) → list_any (λ line. is_some (brace_on line)) (lines text) ≡ false → script_of t text ≡ script_from t 1 (lines text)

-- A script is at most so many lines for each of its texts: each stands in at most 8 blocks, of at most a million rounds.
abbrev pub BoundedScripts : Type 0
BoundedScripts = (t : Contents) (text : Text) (ls : List Line) → script_of t text ≡ Ok ls → length ls ≤ length (lines text) * 1000000 ^ 8

-- what a reader returns is what the definition gives, unless memory ran out
abbrev pub Fails : DecodeError → Result (List Line) ℕ → Type 0
Fails Memory read = Unit {0}
Fails (BadScript n) read = read ≡ Err n

abbrev pub Gives : Result (List Line) DecodeError → Result (List Line) ℕ → Type 0
Gives (Ok lines) read = read ≡ Ok lines
Gives (Err e) read = Fails e read

-- ---- repetition

-- tasks one after another, so many times
abbrev pub rounds : ℕ → List Task → List Task
rounds n tasks = flat_map (λ (ts : List Task). ts) (replicate n tasks)

-- the tasks of lines, each line as often as it is done
unfoldable pub repeated : List Line → List Task
repeated [] = []
repeated (line ∷ lines) = rounds line.times line.tasks ++ repeated lines
