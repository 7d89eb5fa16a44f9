use Rattle.std.proofs.Common.{ℕ, ◌<◌, ◌≡◌, get_or, true}
use Rattle.ec_regs.specs.Fmmus.{no_fmmu}
use Rattle.ec_fmmu.specs.Alone.{IsUnwritten}
use Rattle.ec_fmmu.proofs.crossing.are_apart.Given as goal

abbrev pub invariant-loop-k : goal.invariant-loop-k
invariant-loop-k l = (j : ℕ) → j < l.k → (get_or l.fmmus j no_fmmu).reads ≡ true → IsUnwritten l.fmmus (get_or l.fmmus j no_fmmu)
