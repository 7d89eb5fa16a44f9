use Rattle.std.proofs.Common.{ℕ, ◌<◌, ◌≡◌, ◌≢◌, get_or, true}
use Rattle.ec_regs.specs.Fmmus.{no_fmmu}
use Rattle.ec_fmmu.specs.Pairs.{reaches, reaches_physical}
use Rattle.ec_fmmu.proofs.modes.is_alone_writing.Given as goal

abbrev pub invariant-loop-k : goal.invariant-loop-k
invariant-loop-k l = (j : ℕ) → j < l.k → j ≢ l.index → (get_or l.fmmus j no_fmmu).writes ≡ true
    → ((b : ℕ) → reaches (get_or l.fmmus j no_fmmu) b ≡ true → reaches (get_or l.fmmus l.index no_fmmu) b ≡ true → ⊥)
    × ((q : ℕ) → reaches_physical (get_or l.fmmus j no_fmmu) q ≡ true → reaches_physical (get_or l.fmmus l.index no_fmmu) q ≡ true → ⊥)
