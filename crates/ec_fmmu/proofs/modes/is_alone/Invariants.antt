use Rattle.std.proofs.Common.{ℕ, ◌<◌, ◌≡◌, ◌≢◌, get_or, true}
use Rattle.ec_regs.specs.Fmmus.{no_fmmu}
use Rattle.ec_fmmu.specs.Pairs.{reaches}
use Rattle.ec_fmmu.proofs.modes.is_alone.Given as goal

abbrev pub invariant-loop-k : goal.invariant-loop-k
invariant-loop-k l = (j : ℕ) → j < l.k → j ≢ l.index → (get_or l.fmmus j no_fmmu).reads ≡ true
    → (b : ℕ) → reaches (get_or l.fmmus j no_fmmu) b ≡ true → reaches (get_or l.fmmus l.index no_fmmu) b ≡ true → ⊥
