-- The places of the ranges of FMMUs in the logical space, as the code keeps them.
use Rattle.std.specs.Prelude.{ℕ, ◌<◌, ◌≤◌, ◌≡◌, List, length, get_or, true}
use Rattle.ec_regs.specs.declared.fmmu.FmmuSettings.{FmmuSettings}
use Rattle.ec_regs.specs.Fmmus.{no_fmmu}
use Rattle.ec_fmmu.specs.declared.table.LogicalRange.{LogicalRange}
use Rattle.ec_fmmu.specs.Pairs.{reaches}

-- a stretch has a logical bit
pub record Has (s : LogicalRange) (logical : ℕ) : Type 0 where
  pub from : s.first ≤ logical
  pub below : logical < s.end

-- it has all logical bits of the ranges
abbrev pub IsAround : LogicalRange → List FmmuSettings → Type 0
IsAround s fs = (k : ℕ) → k < length fs → (l : ℕ) → reaches (get_or fs k no_fmmu) l ≡ true → Has s l
