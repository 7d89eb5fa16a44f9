-- Lines and braces that are read one after another (this project's profile). A script keeps them up to its end. Of lines that come, one
-- outside of blocks is due at once, and those of a block once it is whole.
use Rattle.std.specs.Prelude.{◌≡◌, ℕ, ◌+◌, ◌*◌, ◌^◌, ◌≤◌, List, [], ◌∷◌, ◌++◌, length, reverse, nat_lt, Bool, true, if◌then◌else◌, Option, Some, None, Ok}
use Rattle.std.specs.Str.Lines.{lines}
use Rattle.ec_table.specs.Contents.{Contents}
use Rattle.ec_script.specs.declared.draft.Due.{Due}
use Rattle.ec_script.specs.declared.draft.Due.TheVariants as due
use Rattle.ec_script.specs.declared.draft.PieceReading.{PieceReading}
use Rattle.ec_script.specs.declared.draft.PieceReading.TheVariants as read_as
use Rattle.ec_script.specs.declared.line.Line.{Line}
use Rattle.ec_script.specs.declared.line.LineAction.{LineAction}
use Rattle.ec_script.specs.declared.script.Piece.{Piece}
use Rattle.ec_script.specs.declared.script.Piece.TheVariants as piece
use Rattle.ec_script.specs.Blocks.{opened, unrolled}
use Rattle.ec_script.specs.Scripts.{piece_by, piece_reading, script_of}
use Rattle.ec_script.specs.Words.{Text}

-- ---- lines so far

-- the lines and braces that are kept, the latest first; and the blocks that are open, by the numbers of the lines that begin them, the
-- innermost first
pub record DraftState : Type 0 where
  pub pieces : List Piece
  pub around : List ℕ

abbrev pub empty_draft : DraftState
empty_draft = record { pieces = []; around = [] }

-- a `}` more; a block without lines is left out
abbrev pub closed : List Piece → List Piece
closed [] = piece.Close ∷ []
closed (piece.Open n ∷ pieces) = pieces
closed (piece.Line line ∷ pieces) = piece.Close ∷ piece.Line line ∷ pieces
closed (piece.Close ∷ pieces) = piece.Close ∷ piece.Close ∷ pieces

-- a piece more
abbrev pub added : Piece → List Piece → List Piece
added (piece.Line line) pieces = piece.Line line ∷ pieces
added (piece.Open n) pieces = piece.Open n ∷ pieces
added piece.Close pieces = closed pieces

-- a piece more, if it may stand there, by the blocks that are open behind it
abbrev pub added_if : Piece → (behind : Option (List ℕ)) → DraftState → Option DraftState
added_if s None d = None
added_if s (Some around) d = Some (record { pieces = added s d.pieces; around = around })

-- line n more, by what it is, if it is good
abbrev pub drafted : ℕ → PieceReading → DraftState → Option DraftState
drafted n read_as.Empty d = Some d
drafted n read_as.Bad d = None
drafted n (read_as.Piece s) d = added_if s (opened n d.around s) d

-- ---- lines that come

-- the most lines and braces that are kept; a `}` has room all the same
abbrev pub max_lines : ℕ
max_lines = 1000

abbrev pub has_room_for : (kept : ℕ) → PieceReading → Bool
has_room_for kept (read_as.Piece (piece.Line line)) = nat_lt kept max_lines
has_room_for kept (read_as.Piece (piece.Open n)) = nat_lt kept max_lines
has_room_for kept (read_as.Piece piece.Close) = true
has_room_for kept read_as.Empty = true
has_room_for kept read_as.Bad = true

-- what is left of a draft, and which lines are due: all that it has, if no block is open
abbrev pub whole : (around : List ℕ) → DraftState → DraftState × List Line
whole [] d = (empty_draft, unrolled (reverse d.pieces))
whole (m ∷ around) d = (d, [])

abbrev pub due_if : ℕ → (before : DraftState) → Option DraftState → DraftState × Due
due_if n d None = (d, due.Bad n)
due_if n d (Some e) = ((whole e.around e).0, due.Lines (whole e.around e).1)

-- the draft behind line n, by what it is, and what is due then
abbrev pub gathered : ℕ → PieceReading → DraftState → DraftState × Due
gathered n read d = if has_room_for (length d.pieces) read then due_if n d (drafted n read d) else (d, due.Bad n)

-- and at the end of the lines: the innermost block that is still open is bad, and left out
abbrev pub due_at_end : (around : List ℕ) → Due
due_at_end [] = due.Lines []
due_at_end (m ∷ around) = due.Bad m

-- ---- lines one after another

-- what line n is where only these actions are taken; one that isn't text is bad
abbrev pub reading_if : (LineAction → Bool) → Contents → ℕ → (around : List ℕ) → Option Text → PieceReading
reading_if takes t n around None = read_as.Bad
reading_if takes t n around (Some text) = piece_by takes t n around text

-- the draft behind lines that come, the first of which has number n
abbrev pub behind : (LineAction → Bool) → Contents → DraftState → ℕ → List (Option Text) → DraftState
behind takes t d n [] = d
behind takes t d n (line ∷ lines) = behind takes t (gathered n (reading_if takes t n d.around line) d).0 (n + 1) lines

-- lines that are due are at most so many
abbrev pub IsBounded : Due → Type 0
IsBounded (due.Bad n) = Unit {0}
IsBounded (due.Lines lines) = length lines ≤ 1008 * 1000000 ^ 8

-- Of lines that come at most 1008 are kept, braces too, and what is due at one has a bound: each is done in at most 8 blocks, of at most a
-- million rounds.
abbrev pub BoundedDrafts : Type 0
BoundedDrafts = (takes : LineAction → Bool) (t : Contents) (n m : ℕ) (lines : List (Option Text)) (line : Option Text) → (length (behind takes t empty_draft n lines).pieces ≤ 1008)
    × IsBounded (gathered m (reading_if takes t m (behind takes t empty_draft n lines).around line) (behind takes t empty_draft n lines)).1

-- ---- the lines of a script, if they come

abbrev pub lines_due : Due → List Line
lines_due (due.Bad n) = []
lines_due (due.Lines lines) = lines

-- all lines that are due while texts come behind a draft, the first of which has number n
abbrev pub due_of : Contents → DraftState → ℕ → List Text → List Line
due_of t d n [] = []
due_of t d n (text ∷ texts) =
    lines_due (gathered n (piece_reading t n d.around text) d).1 ++ due_of t (gathered n (piece_reading t n d.around text) d).0 (n + 1) texts

-- A script of at most 1000 lines is what is due while its lines come.
abbrev pub ScriptsCome : Type 0
ScriptsCome = (t : Contents) (text : Text) (ls : List Line) → length (lines text) ≤ 1000 → script_of t text ≡ Ok ls → due_of t empty_draft 1 (lines text) ≡ ls
