-- What private code keeps of pieces while they are read and done. You don't need it to read what a script stands for.
use Rattle.std.specs.Prelude.{◌≡◌, ℕ, ◌+◌, ◌-◌, ◌<◌, ◌≤◌, List, [], ◌∷◌, ◌++◌, length, drop, nat_lt, if◌then◌else◌, Result, Ok, Err}
use Rattle.ec_decode.specs.declared.error.DecodeError.{DecodeError}
use Rattle.ec_decode.specs.declared.error.DecodeError.TheVariants.{BadScript}
use Rattle.ec_script.specs.declared.draft.PieceReading.{PieceReading}
use Rattle.ec_script.specs.declared.draft.PieceReading.TheVariants as read_as
use Rattle.ec_script.specs.declared.line.Line.{Line}
use Rattle.ec_script.specs.declared.script.Round.{Round}
use Rattle.ec_script.specs.declared.script.Piece.{Piece}
use Rattle.ec_script.specs.declared.script.Piece.TheVariants as piece
use Rattle.ec_script.specs.Blocks.{again, first, others, unrolled}

-- ---- blocks in one another

-- pieces lead from so many open blocks to so many; there are never more than 8, and each block is done once at least
abbrev pub AreNested : ℕ → List Piece → ℕ → Type 0
AreNested depth [] last = depth ≡ last
AreNested depth (piece.Line line ∷ pieces) last = AreNested depth pieces last
AreNested depth (piece.Open n ∷ pieces) last = (0 < n) × (depth < 8) × AreNested (depth + 1) pieces last
AreNested depth (piece.Close ∷ pieces) last = (0 < depth) × AreNested (depth - 1) pieces last

-- ---- a script that is read

-- the number of a block's rounds, as it is read
abbrev pub IsBegun : Piece → Type 0
IsBegun (piece.Line line) = Unit {0}
IsBegun (piece.Open n) = (0 < n) × (n ≤ 1000000)
IsBegun piece.Close = Unit {0}

abbrev pub IsBegunIf : PieceReading → Type 0
IsBegunIf read_as.Empty = Unit {0}
IsBegunIf read_as.Bad = Unit {0}
IsBegunIf (read_as.Piece s) = IsBegun s

-- a script that ends with these pieces and these blocks around its end
abbrev pub IsEnded : List Piece → (around : List ℕ) → Result (List Line) DecodeError → Type 0
IsEnded pieces [] (Ok lines) = lines ≡ unrolled pieces
IsEnded pieces [] (Err error) = ⊥
IsEnded pieces (m ∷ around) (Ok lines) = ⊥
IsEnded pieces (m ∷ around) (Err error) = error ≡ BadScript m

-- ---- a script that is done

-- as `layers`, of the pieces themselves
unfoldable pub traces : List Piece → List (List Piece)
traces [] = [] ∷ []
traces (piece.Close ∷ pieces) = (piece.Close ∷ []) ∷ traces pieces
traces (piece.Line line ∷ pieces) = (piece.Line line ∷ first (traces pieces)) ∷ others (traces pieces)
traces (piece.Open n ∷ pieces) = (piece.Open n ∷ (again n (first (traces pieces)) ++ first (others (traces pieces)))) ∷ others (others (traces pieces))

-- the lines among pieces
unfoldable pub lines_among : List Piece → List Line
lines_among [] = []
lines_among (piece.Line line ∷ pieces) = line ∷ lines_among pieces
lines_among (piece.Open n ∷ pieces) = lines_among pieces
lines_among (piece.Close ∷ pieces) = lines_among pieces

-- the pieces of a block's round
abbrev pub body : List Piece → Round → List Piece
body pieces r = first (traces (drop r.begin pieces))

-- what is left to be done of pieces, by what follows, and the blocks that are open, the innermost first
abbrev pub left_of : List Piece → List (List Piece) → List Round → List Piece
left_of pieces ahead [] = first ahead
left_of pieces ahead (r ∷ around) = first ahead ++ (again (r.left - 1) (body pieces r) ++ left_of pieces (others ahead) around)

-- at a place
abbrev pub pieces_left : List Piece → ℕ → List Round → List Piece
pieces_left pieces place around = left_of pieces (traces (drop place pieces)) around

abbrev pub lines_left : List Piece → ℕ → List Round → List Line
lines_left pieces place around = lines_among (pieces_left pieces place around)

-- blocks that are open: each has rounds left, with the one that it is in, and behind its beginning come its lines and then these
abbrev pub AreOpen : List Piece → (behind : List (List Piece)) → List Round → Type 0
AreOpen pieces behind [] = Unit {0}
AreOpen pieces behind (r ∷ around) =
    (0 < r.left) × (others (traces (drop r.begin pieces)) ≡ behind) × AreNested (length around + 1) (drop r.begin pieces) 0 × AreOpen pieces (others behind) around

-- a place among pieces, with the blocks that are open there
pub record IsAt (pieces : List Piece) (place : ℕ) (around : List Round) : Type 0 where
  pub few : length around ≤ 8
  pub nested : AreNested (length around) (drop place pieces) 0
  pub rounds : AreOpen pieces (others (traces (drop place pieces))) around

-- the end of a round of the innermost block, whose `}` stands before `next`: where it goes on, and the blocks that are open then
abbrev pub turned : ℕ → List Round → ℕ × List Round
turned next [] = (next, [])
turned next (r ∷ around) = if nat_lt 1 r.left then (r.begin, record r { left = r.left - 1 } ∷ around) else (next, around)
