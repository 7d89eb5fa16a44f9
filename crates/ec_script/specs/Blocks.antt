-- Blocks of lines (this project's profile): `repeat N {`, lines, and `}`.
use Rattle.std.specs.Prelude.{ℕ, zero, suc, List, [], ◌∷◌, ◌++◌, length, nat_lt, if◌then◌else◌, Option, Some, None}
use Rattle.ec_script.specs.declared.line.Line.{Line}
use Rattle.ec_script.specs.declared.script.Piece.{Piece}
use Rattle.ec_script.specs.declared.script.Piece.TheVariants as piece

-- ---- what blocks stand for

-- lines again and again, this many times
abbrev pub again : {X : Type 0} → ℕ → List X → List X
again zero lines = []
again (suc n) lines = lines ++ again n lines

-- the first of some lists, and the others
abbrev pub first : {X : Type 0} → List (List X) → List X
first [] = []
first (lines ∷ more) = lines

abbrev pub others : {X : Type 0} → List (List X) → List (List X)
others [] = []
others (lines ∷ more) = more

-- Pieces are read from their end, with a list of lines that is empty there. A `}` begins another one. A line comes before the first list.
-- `repeat N {` puts the first list N times before the second. So the first list has the lines up to the `}` of the block that the pieces
-- are in, and the second those behind it up to the next `}`.
unfoldable pub layers : List Piece → List (List Line)
layers [] = [] ∷ []
layers (piece.Close ∷ pieces) = [] ∷ layers pieces
layers (piece.Line line ∷ pieces) = (line ∷ first (layers pieces)) ∷ others (layers pieces)
layers (piece.Open n ∷ pieces) = (again n (first (layers pieces)) ++ first (others (layers pieces))) ∷ others (others (layers pieces))

-- the lines that pieces stand for: those of a block as many times as it says
abbrev pub unrolled : List Piece → List Line
unrolled pieces = first (layers pieces)

-- ---- blocks that are open

-- The blocks that are open behind a piece, by the numbers of the lines that begin them, the innermost first; n is the number of the
-- piece's own line. There are at most 8, and a `}` closes one.
abbrev pub opened : (n : ℕ) → (around : List ℕ) → Piece → Option (List ℕ)
opened n around (piece.Line line) = Some around
opened n around (piece.Open times) = if nat_lt (length around) 8 then Some (n ∷ around) else None
opened n [] piece.Close = None
opened n (m ∷ around) piece.Close = Some around
