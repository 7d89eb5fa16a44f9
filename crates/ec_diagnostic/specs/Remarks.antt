-- Remarks on a text, and the places that they name.
use Rattle.std.specs.Prelude.{◌≡◌, ◌++◌, ◌∷◌, [], ℕ, List, codes, Option, Some, None}
use Rattle.std.specs.Fmt.{decimal}
use Rattle.std.specs.declared.alloc.Global.{Global}
use Rattle.std.specs.declared.string.String.{String}
use Rattle.ec_diagnostic.specs.declared.spot.Spot.{Spot}
use Rattle.ec_diagnostic.specs.declared.remark.Remark.{Remark}
use Rattle.ec_diagnostic.specs.Spots.{LiesIn}

-- a text and the remarks on it
pub record Said : Type 0 where
  pub text : List ℕ
  pub remarks : List Remark

-- the place that a remark names, if it names one, lies in the text
abbrev pub IsIn : List ℕ → Option Spot → Type 0
IsIn text None = Unit {0}
IsIn text (Some spot) = LiesIn text spot

abbrev pub StandsIn : List ℕ → Remark → Type 0
StandsIn text remark = IsIn text remark.spot

-- One remark more, behind all others, with its place and its words. How many characters it marks is
-- left open: tests compare the marks.
abbrev pub SaysMore : Said → Said → Option Spot → String Global → Type 0
SaysMore old new spot words =
    (new.text ≡ old.text) × ((width : ℕ) × (new.remarks ≡ old.remarks ++ (record { spot = spot; width = width; words = words } ∷ [])))

-- the line that says where it stands, in a file or in a text without a name
abbrev pub heading : (file : Option (List ℕ)) → Spot → List ℕ → List ℕ
heading None spot words = codes "line " ++ (decimal spot.line ++ (codes ", column " ++ (decimal spot.column ++ (codes ": " ++ (words ++ 10 ∷ [])))))
heading (Some name) spot words = name ++ (codes ":" ++ (decimal spot.line ++ (codes ":" ++ (decimal spot.column ++ (codes ": " ++ (words ++ 10 ∷ []))))))
