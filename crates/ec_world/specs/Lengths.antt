-- How long the values of a slave are: what was published, and what is being written.
use Rattle.std.specs.Prelude.{ℕ, ◌≡◌, List, length, Some}
use Rattle.ec_sync.specs.Buffer.{Buffer}

-- the published value has so many bytes, and an open draft as many
pub record IsOfLength (n : ℕ) (b : Buffer) : Type 0 where
  pub published : length b.published ≡ n
  pub draft : (d : List ℕ) → b.draft ≡ Some d → length d ≡ n
