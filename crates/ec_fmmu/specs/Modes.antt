-- How datagrams go through one FMMU of a slave, as the code keeps it.
use Rattle.std.specs.Prelude.{ℕ, ◌+◌, ◌*◌, ◌<◌, ◌≤◌, ◌^◌, ◌≡◌, List, get_or, Bool, true, false}
use Rattle.ec_bits.specs.Bits.{any_below}
use Rattle.ec_regs.specs.declared.fmmu.FmmuSettings.{FmmuSettings}
use Rattle.ec_regs.specs.Memory.{ram_start, ram_end}
use Rattle.ec_regs.specs.Fmmus.{no_fmmu}
use Rattle.ec_fmmu.specs.declared.run.Run.{Run}
use Rattle.ec_fmmu.specs.declared.modes.Mode.{Mode}
use Rattle.ec_fmmu.specs.declared.modes.Mode.TheVariants.{Closed, Alone, Shared}
use Rattle.ec_fmmu.specs.Alone.{IsAlone, IsAloneWriting, run_mapped, run_unmapped}
use Rattle.ec_fmmu.specs.Applied.{LogicalSpan, leads_into}
use Rattle.ec_fmmu.specs.Pairs.{mapped, unmapped}

-- the physical bits of a run are the RAM's, and its logical bits have numbers that can be counted on
pub record IsInRam (r : Run) : Type 0 where
  pub from_ram : 8 * ram_start ≤ r.physical
  pub to_ram : r.physical + r.count ≤ 8 * ram_end
  pub small : r.logical + r.count < 2 ^ 42

-- FMMU k reads, no other one that reads meets its range, and its pairs are a run
pub record IsReadRun (fs : List FmmuSettings) (k : ℕ) (r : Run) : Type 0 where
  pub goes : (get_or fs k no_fmmu).reads ≡ true
  pub alone : IsAlone fs k
  pub pairs : (l : ℕ) → mapped (get_or fs k no_fmmu) l ≡ run_mapped r.logical r.physical r.count l
  pub inside : IsInRam r

-- as above for an FMMU that writes
pub record IsWriteRun (fs : List FmmuSettings) (k : ℕ) (r : Run) : Type 0 where
  pub goes : (get_or fs k no_fmmu).writes ≡ true
  pub alone : IsAloneWriting fs k
  pub pairs : (q : ℕ) → unmapped (get_or fs k no_fmmu) q ≡ run_unmapped r.logical r.physical r.count q
  pub inside : IsInRam r

abbrev pub IsReadMode : List FmmuSettings → ℕ → Mode → Type 0
IsReadMode fs k Closed = (get_or fs k no_fmmu).reads ≡ false
IsReadMode fs k (Alone r) = IsReadRun fs k r
IsReadMode fs k Shared = Unit {0}

abbrev pub IsWriteMode : List FmmuSettings → ℕ → Mode → Type 0
IsWriteMode fs k Closed = (get_or fs k no_fmmu).writes ≡ false
IsWriteMode fs k (Alone r) = IsWriteRun fs k r
IsWriteMode fs k Shared = Unit {0}

abbrev pub IsModeInRam : Mode → Type 0
IsModeInRam Closed = Unit {0}
IsModeInRam (Alone r) = IsInRam r
IsModeInRam Shared = Unit {0}

-- the modes of the four FMMUs
abbrev pub AreReadModes : List FmmuSettings → List Mode → Type 0
AreReadModes fs modes = (k : ℕ) → k < 4 → IsReadMode fs k (get_or modes k Closed)

abbrev pub AreWriteModes : List FmmuSettings → List Mode → Type 0
AreWriteModes fs modes = (k : ℕ) → k < 4 → IsWriteMode fs k (get_or modes k Closed)

-- whether a pair of a run leads one of the data bits to a bit of a byte
abbrev pub run_touches : Run → LogicalSpan → ℕ → Bool
run_touches r p address = any_below p.bits (λ i. leads_into (run_mapped r.logical r.physical r.count (p.from + i)) address)

abbrev pub mode_touches : Mode → LogicalSpan → ℕ → Bool
mode_touches Closed p address = false
mode_touches (Alone r) p address = run_touches r p address
mode_touches Shared p address = false

abbrev pub is_shared : Mode → Bool
is_shared Closed = false
is_shared (Alone r) = false
is_shared Shared = true

abbrev pub is_closed : Mode → Bool
is_closed Closed = true
is_closed (Alone r) = false
is_closed Shared = false

-- no mode at this index or behind it is open
abbrev pub AreClosedFrom : ℕ → List Mode → Type 0
AreClosedFrom end modes = (k : ℕ) → end ≤ k → is_closed (get_or modes k Closed) ≡ true
