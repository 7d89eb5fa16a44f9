-- Reads beside writes, and a run of bits as it is read.
use Rattle.std.specs.Prelude.{ℕ, ◌+◌, ◌-◌, ◌≡◌, List, if◌then◌else◌, Bool, Option, Some, None}
use Rattle.ec_bits.specs.Bits.{within}
use Rattle.ec_regs.specs.declared.fmmu.FmmuSettings.{FmmuSettings}
use Rattle.ec_fmmu.specs.Sets.{readers, source, target, writers}

-- a physical bit that is read is not written
abbrev pub AreApart : List FmmuSettings → Type 0
AreApart fs = (l q : ℕ) → target (readers fs) l ≡ Some q → source (writers fs) q ≡ None

-- what n bits that begin at a physical bit show, as the bits that begin at `to`
abbrev pub run_visible : (ℕ → Option Bool) → ℕ → ℕ → ℕ → ℕ → Option Bool
run_visible visible physical to n i = if within to n i then visible (physical + (i - to)) else None
