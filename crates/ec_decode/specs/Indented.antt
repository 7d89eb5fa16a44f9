-- Indented lines, which say for people what the line before them is about; readers of a text skip them (this project's profile).
use Rattle.std.specs.Prelude.{ℕ, ◌+◌, ◌==◌, ◌||◌, Bool, if◌then◌else◌, List, [], ◌∷◌, ◌++◌, Option, Some, None, slice_index, get_or, codes}
use Rattle.std.specs.List.{flat_map, slice_split}
use Rattle.ec_decode.specs.FrameText.{Text, newline}

-- what stands before, between and behind the newlines of a text: each of these but the last is a line
abbrev pub parts_of : Text → List Text
parts_of text = slice_split (λ b. b == 10) text

-- ---- the text without its indented lines

-- it begins with a blank or a tab
abbrev pub is_indented : Text → Bool
is_indented line = (slice_index line 0 == 32) || (slice_index line 0 == 9)

-- a line with its newline, unless it is indented
abbrev pub kept : Text → Text
kept line = if is_indented line then [] else line ++ newline

-- behind the last newline there is no newline to keep
abbrev pub unindented : List Text → Text
unindented [] = []
unindented (part ∷ []) = if is_indented part then [] else part
unindented (line ∷ next ∷ parts) = kept line ++ unindented (next ∷ parts)

abbrev pub without_indented : Text → Text
without_indented text = unindented (parts_of text)

-- ---- remarks within a text

abbrev pub margin : Text
margin = codes "    "

-- an empty line has nothing to say
abbrev pub indented_line : Text → Text
indented_line [] = []
indented_line (b ∷ bytes) = (margin ++ b ∷ bytes) ++ newline

abbrev pub indented : Text → Text
indented remarks = flat_map indented_line (parts_of remarks)

-- the remarks on a line, by its number from 0
abbrev pub remark_of : List Text → ℕ → Text
remark_of remarks n = get_or remarks n []

-- a part of a text, and behind a line its newline and the remarks on it
abbrev pub ended : Text → Option Text → Text
ended part None = part
ended part (Some remarks) = (part ++ newline) ++ indented remarks

-- the remarks on a part, if it is a line
abbrev pub behind : List Text → ℕ → Bool → Option Text
behind remarks n is_line = if is_line then Some (remark_of remarks n) else None

abbrev pub woven_from : List Text → ℕ → List Text → Text
woven_from remarks n [] = []
woven_from remarks n (part ∷ []) = ended part None
woven_from remarks n (line ∷ next ∷ parts) = ended line (Some (remark_of remarks n)) ++ woven_from remarks (n + 1) (next ∷ parts)

-- a text with remarks behind its lines
abbrev pub woven : List Text → Text → Text
woven remarks text = woven_from remarks 0 (parts_of text)
