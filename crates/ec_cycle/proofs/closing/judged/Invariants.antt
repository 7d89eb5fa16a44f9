use Rattle.std.proofs.Common.{ℕ, ◌<◌, ◌≡◌, false, get_or, length}
use Rattle.ec_cycle.proofs.UnitLoops.{judged_below}
use Rattle.ec_cycle.proofs.closing.judged.Given as goal

abbrev pub invariant-loop-k : goal.invariant-loop-k
invariant-loop-k l = record {
  size : length l.taken ≡ 256;
  so_far : (u : ℕ) → u < 256 → get_or l.taken u false ≡ judged_below l.plan l.kept l.k u;
}
