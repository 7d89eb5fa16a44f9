-- The values under the keys of a table, in one list.
use Rattle.std.specs.Prelude.{◌≡◌, ◌+◌, List, [], ◌∷◌, ℕ, Option, None, get_or}
use Rattle.std.specs.Borrow.{Bor}
use Rattle.toml.specs.Data.{Members, get_member}
use Rattle.toml.specs.declared.value.Value.{Value}
use Rattle.ec_table.specs.Fields.{viewed}

-- the values that begin at a place are those under these keys
abbrev pub AreUnder : List (Option (Bor Value)) → ℕ → List (List ℕ) → Members → Type 0
AreUnder values index [] ms = Unit {0}
AreUnder values index (key ∷ keys) ms = (viewed (get_or values index None) ≡ get_member key ms) × AreUnder values (index + 1) keys ms
