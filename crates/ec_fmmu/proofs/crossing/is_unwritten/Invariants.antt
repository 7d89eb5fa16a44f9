use Rattle.std.proofs.Common.{ℕ, ◌<◌, ◌≡◌, get_or, true}
use Rattle.ec_regs.specs.Fmmus.{no_fmmu}
use Rattle.ec_fmmu.specs.Pairs.{reaches_physical}
use Rattle.ec_fmmu.proofs.crossing.is_unwritten.Given as goal

abbrev pub invariant-loop-k : goal.invariant-loop-k
invariant-loop-k l = (j : ℕ) → j < l.k → (get_or l.fmmus j no_fmmu).writes ≡ true
    → (q : ℕ) → reaches_physical (get_or l.fmmus j no_fmmu) q ≡ true → reaches_physical l.reader q ≡ true → ⊥
