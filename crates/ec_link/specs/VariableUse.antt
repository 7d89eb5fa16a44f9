-- The use of each variable by the links so far: helpers of private code.
use Rattle.std.specs.Prelude.{ℕ, ◌≡◌, ◌<◌, ◌==◌, ◌||◌, not, false, List, [], ◌∷◌, length, get_or, Option, Some, None}
use Rattle.ec_table.specs.declared.rows.LinkRow.{LinkRow}
use Rattle.ec_table.specs.Contents.{Contents}
use Rattle.ec_link.specs.declared.faults.VariableUse.{VariableUse}
use Rattle.ec_link.specs.Faults.{differ, units_of_variable}

abbrev pub nothing_used : VariableUse
nothing_used = record { unit = None; differs = false }

-- the use with one more link from a unit
abbrev pub more_by : Option ℕ → VariableUse → ℕ → VariableUse
more_by None s u = record { unit = Some u; differs = s.differs }
more_by (Some first) s u = record { unit = Some first; differs = s.differs || not (u == first) }

abbrev pub use_with : VariableUse → ℕ → VariableUse
use_with s u = more_by s.unit s u

abbrev pub first_of_units : List ℕ → Option ℕ
first_of_units [] = None
first_of_units (u ∷ us) = Some u

-- the use of a variable, by the units of its links
abbrev pub use_of : List ℕ → VariableUse
use_of us = record { unit = first_of_units us; differs = differ us }

-- the use of each variable by these links
pub record AreUsed (t : Contents) (ls : List LinkRow) (uses : List VariableUse) : Type 0 where
  pub as_many : length uses ≡ length t.variables
  pub each : (v : ℕ) (d : VariableUse) → v < length t.variables → get_or uses v d ≡ use_of (units_of_variable t v ls)
