-- Names of rows: whether a section has one, and at which index.
use Rattle.std.specs.Prelude.{ℕ, List, Bool, Option, position}
use Rattle.std.specs.List.{list_any}
use Rattle.std.specs.Str.{bytes_eq}

module _ {X : Type 0} (name_of : X → List ℕ) where
  -- some row has the name
  abbrev pub is_named : List ℕ → List X → Bool
  is_named name rows = list_any (λ x. bytes_eq (name_of x) name) rows

  -- the index of the first row with the name
  abbrev pub index_named : List ℕ → List X → Option ℕ
  index_named name rows = position (λ x. bytes_eq (name_of x) name) rows
