-- Two parts of some bytes, lent as two slices.
use Rattle.std.specs.Prelude.{ℕ, List, ◌++◌}
use Rattle.std.specs.Borrow.{LendsBoth, MutBor, Fml, u8, Array}

-- the bytes end as the two parts joined, as they were left
abbrev pub LendsParts : MutBor (List ℕ) → MutBor (List ℕ) × MutBor (List ℕ) → Fml
LendsParts s r = LendsBoth (Array u8 0) (Array u8 0) (Array u8 0) s r ◌++◌
