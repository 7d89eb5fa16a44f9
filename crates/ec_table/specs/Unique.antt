-- Names that stand once, as the rows that were read keep it.
use Rattle.std.specs.Prelude.{◌≡◌, ◌<◌, ℕ, List, Some, length, get_or}
use Rattle.ec_table.specs.Names.{index_named}

module _ {X : Type 0} (name_of : X → List ℕ) where
  -- no two rows have one name: each row is the first that has its own
  abbrev pub AreApart : List X → Type 0
  AreApart rows = (index : ℕ) (none : X) → index < length rows → index_named name_of (name_of (get_or rows index none)) rows ≡ Some index
