-- The lines that an input gives, and the text before a line `%%` (choices of this project).
use Rattle.std.specs.Prelude.{◌≡◌, ◌≢◌, ◌⊎◌, ℕ, ◌-◌, ◌+◌, ◌^◌, ◌<◌, ◌==◌, ◌&&◌, ◌||◌, nat_le, All, List, [], ◌∷◌, ◌++◌, length, take, slice_index, Bool, true, false, if◌then◌else◌, Option, Some, None, string_bytes}
use Rattle.std.specs.Io.KnownBytes.{Consumes, IsAtEnd}
use Rattle.std.specs.Str.{IsUtf8, bytes_eq, is_utf8}
use Rattle.std.specs.Str.Lines.{strip_carriage_return}
use Rattle.ec_lines.specs.declared.error.LinesError.{LinesError}
use Rattle.ec_lines.specs.declared.error.LinesError.TheVariants.{Memory, Unread, TooLong, NoText}
use Rattle.ec_lines.specs.declared.lines.NextLine.{NextLine}
use Rattle.ec_lines.specs.declared.lines.NextLine.TheVariants as taken

-- ---- lines

-- A line is taken from an input, with its newline; or, behind the last newline, all that is left, which may be nothing.
pub record TakesLine (old new : Option (List ℕ)) (line : List ℕ) : Type 0 where
  pub front : List ℕ
  pub unended : All (λ b. b ≢ 10) front
  pub taken : Consumes old new line
  pub ends : (line ≡ front ++ (10 ∷ [])) ⊎ ((line ≡ front) × IsAtEnd new)

-- a line without its end, which is a newline, and without a carriage return before it
abbrev pub without_end : List ℕ → List ℕ
without_end line = if slice_index line (length line - 1) == 10 then strip_carriage_return (take (length line - 1) line) else line

-- at most 2^20 bytes of UTF-8
abbrev pub is_text : List ℕ → Bool
is_text bytes = nat_le (length bytes) (2 ^ 20) && is_utf8 bytes

abbrev pub is_text_line : List ℕ → Bool
is_text_line line = is_text (without_end line)

-- what a line is taken as; an empty one is the end of the input
abbrev pub IsTaken : List ℕ → NextLine → Type 0
IsTaken line taken.End = line ≡ []
IsTaken line (taken.Text text) = (0 < length line) × (is_text_line line ≡ true) × (string_bytes text ≡ without_end line)
IsTaken line taken.NoText = (0 < length line) × (is_text_line line ≡ false)

-- lines one after another, each of at least one byte
abbrev pub TakesLines : Option (List ℕ) → Option (List ℕ) → List (List ℕ) → Type 0
TakesLines old new [] = new ≡ old
TakesLines old new (line ∷ lines) = (mid : Option (List ℕ)) × TakesLine old mid line × (0 < length line) × TakesLines mid new lines

-- ---- a line that comes in parts

-- Bytes of a line were taken, none of which ends it. Of them the first are kept, at most so many.
pub record IsSoFar (old now : Option (List ℕ)) (most : ℕ) (kept : List ℕ) : Type 0 where
  pub front : List ℕ
  pub unended : All (λ b. b ≢ 10) front
  pub taken : Consumes old now front
  pub keeps : kept ≡ take most front

-- the most bytes that are kept of a line: one more than the longest line with its longest end
abbrev pub max_kept : ℕ
max_kept = 2 ^ 20 + 3

-- The line that begins at `old` is whole, and none of the next one is kept; or more of it is to come.
abbrev pub GoesOn : (old now : Option (List ℕ)) → (kept : List ℕ) → Option NextLine → Type 0
GoesOn old now kept (Some next) = (line : List ℕ) × TakesLine old now line × IsTaken line next × (kept ≡ [])
GoesOn old now kept None = IsSoFar old now max_kept kept

-- ---- a text and a line behind it

-- a line `%%`, which stands behind a text
abbrev pub is_divider : List ℕ → Bool
is_divider line = bytes_eq line (37 ∷ 37 ∷ 10 ∷ []) || (bytes_eq line (37 ∷ 37 ∷ 13 ∷ 10 ∷ []) || bytes_eq line (37 ∷ 37 ∷ []))

-- the bytes of lines
abbrev pub joined : List (List ℕ) → List ℕ
joined [] = []
joined (line ∷ lines) = line ++ joined lines

-- lines are taken, none of which ends a text, and `text` has their bytes
pub record TakesUndivided (old new : Option (List ℕ)) (text : List ℕ) : Type 0 where
  pub lines : List (List ℕ)
  pub taken : TakesLines old new lines
  pub none : All (λ line. is_divider line ≡ false) lines
  pub whole : text ≡ joined lines

-- the lines before the first line `%%` are taken, and that line; or all that are left
pub record TakesText (old new : Option (List ℕ)) (text : List ℕ) : Type 0 where
  pub mid : Option (List ℕ)
  pub taken : TakesUndivided old mid text
  pub last : List ℕ
  pub end : TakesLine mid new last
  pub stops : (last ≡ []) ⊎ (is_divider last ≡ true)

-- ---- refusals

-- some bytes are taken, and the others are left
abbrev pub TakesPart : Option (List ℕ) → Option (List ℕ) → Type 0
TakesPart old new = (part : List ℕ) × Consumes old new part

-- the errors of taking a line: memory may run out at any time, or a read was refused
abbrev pub IsReadFault : (is_refused : Bool) → LinesError → Type 0
IsReadFault is_refused Memory = Unit {0}
IsReadFault is_refused Unread = is_refused ≡ true
IsReadFault is_refused _ = ⊥

-- the errors of taking a text: memory ran out, a read was refused, its first lines have too many bytes, or it isn't UTF-8
abbrev pub RefusesText : (is_refused : Bool) → (old new : Option (List ℕ)) → LinesError → Type 0
RefusesText is_refused old new Memory = TakesPart old new
RefusesText is_refused old new Unread = TakesPart old new × (is_refused ≡ true)
RefusesText is_refused old new TooLong = (text : List ℕ) × TakesUndivided old new text × (2 ^ 20 < length text)
RefusesText is_refused old new NoText = (text : List ℕ) × TakesText old new text × (IsUtf8 text → ⊥)
