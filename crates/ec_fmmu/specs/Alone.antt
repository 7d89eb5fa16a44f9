-- An FMMU whose range no other one's meets, and its pairs as a run, as the code goes through them.
use Rattle.std.specs.Prelude.{ℕ, ◌+◌, ◌-◌, ◌*◌, ◌/◌, ◌<◌, ◌≡◌, ◌≢◌, List, length, get_or, Bool, true, if◌then◌else◌, Option, Some, None, option_map}
use Rattle.ec_bits.specs.Bits.{bit, within}
use Rattle.ec_regs.specs.declared.fmmu.FmmuSettings.{FmmuSettings}
use Rattle.ec_regs.specs.Fmmus.{no_fmmu}
use Rattle.ec_fmmu.specs.Applied.{inside_span}
use Rattle.ec_fmmu.specs.Pairs.{reaches, reaches_physical}

-- no other FMMU that reads has a logical bit of the range of FMMU k
abbrev pub IsAlone : List FmmuSettings → ℕ → Type 0
IsAlone fs k = (j : ℕ) → j < length fs → j ≢ k → (get_or fs j no_fmmu).reads ≡ true
    → (l : ℕ) → reaches (get_or fs j no_fmmu) l ≡ true → reaches (get_or fs k no_fmmu) l ≡ true → ⊥

-- no other FMMU that writes has a logical bit, or a physical bit, of the range of FMMU k
abbrev pub IsAloneWriting : List FmmuSettings → ℕ → Type 0
IsAloneWriting fs k = (j : ℕ) → j < length fs → j ≢ k → (get_or fs j no_fmmu).writes ≡ true
    → ((l : ℕ) → reaches (get_or fs j no_fmmu) l ≡ true → reaches (get_or fs k no_fmmu) l ≡ true → ⊥)
    × ((q : ℕ) → reaches_physical (get_or fs j no_fmmu) q ≡ true → reaches_physical (get_or fs k no_fmmu) q ≡ true → ⊥)

-- no FMMU that writes has a physical bit of the range of one
abbrev pub IsUnwritten : List FmmuSettings → FmmuSettings → Type 0
IsUnwritten fs f = (k : ℕ) → k < length fs → (get_or fs k no_fmmu).writes ≡ true
    → (q : ℕ) → reaches_physical (get_or fs k no_fmmu) q ≡ true → reaches_physical f q ≡ true → ⊥

-- the physical bit of a logical bit in a run
abbrev pub run_mapped : ℕ → ℕ → ℕ → ℕ → Option ℕ
run_mapped logical physical n l = if within logical n l then Some (physical + (l - logical)) else None

-- the logical bit of a physical bit in a run
abbrev pub run_unmapped : ℕ → ℕ → ℕ → ℕ → Option ℕ
run_unmapped logical physical n q = if within physical n q then Some (logical + (q - physical)) else None

-- what n physical bits become by data bits that begin at `at`, as bits of a window that begin at `to`
abbrev pub run_written : (ℕ → Bool) → ℕ → List ℕ → ℕ → ℕ → ℕ → ℕ → Option Bool
run_written allowed physical bytes at to n k =
    if within to n k
    then (if allowed ((physical + (k - to)) / 8) then Some (bit bytes (at + (k - to))) else None)
    else None

-- what a physical bit becomes by a write of the data, if its pair is with this logical bit, or it has none
abbrev pub brought_by : (ℕ → Bool) → ℕ → List ℕ → ℕ → Option ℕ → Option Bool
brought_by allowed from bytes q logical =
    if allowed (q / 8) then option_map (bit bytes) (inside_span (record { from = from; bits = 8 * length bytes }) logical) else None
