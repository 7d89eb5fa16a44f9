-- Where something stands in a text, as people count.
use Rattle.std.specs.Prelude.{◌≡◌, ◌≤◌, ◌+◌, ◌-◌, ◌==◌, ◌||◌, ℕ, Bool, not, nat_lt, nat_le, List, [], ◌∷◌, take, reverse, take_while, count_by, if◌then◌else◌, slice_get, Some}
use Rattle.ec_diagnostic.specs.declared.spot.Spot.{Spot}

-- a line feed ends a line
abbrev pub is_line_end : ℕ → Bool
is_line_end b = b == 10

abbrev pub goes_on : ℕ → Bool
goes_on b = not (b == 10)

-- the first byte of a character in UTF-8
abbrev pub opens : ℕ → Bool
opens b = nat_lt b 128 || nat_le 192 b

-- as many line ends stand before it, and one line more
abbrev pub line_at : List ℕ → ℕ → ℕ
line_at text position = 1 + count_by is_line_end (take position text)

-- as many characters stand between the last line end before it and it, and one more
abbrev pub column_at : List ℕ → ℕ → ℕ
column_at text position = 1 + count_by opens (take_while goes_on (reverse (take position text)))

abbrev pub spot_at : List ℕ → ℕ → Spot
spot_at text position = record { line = line_at text position; column = column_at text position }

-- the lines of a text without their ends; behind the last end there is one more
abbrev pub onto : ℕ → List (List ℕ) → List (List ℕ)
onto b [] = (b ∷ []) ∷ []
onto b (l ∷ ls) = (b ∷ l) ∷ ls

abbrev pub pieces : List ℕ → List (List ℕ)
pieces [] = [] ∷ []
pieces (b ∷ bs) = if is_line_end b then [] ∷ pieces bs else onto b (pieces bs)

-- it names a line that the text has, and a character of it or the place behind its last
pub record LiesIn (text : List ℕ) (spot : Spot) : Type 0 where
  pub some_line : 1 ≤ spot.line
  pub some_column : 1 ≤ spot.column
  pub line : List ℕ
  pub there : slice_get (pieces text) (spot.line - 1) ≡ Some line
  pub within : spot.column ≤ 1 + count_by opens line
