use Rattle.std.proofs.Common.{ℕ, ◌<◌, ◌≡◌, None, get_or}
use Rattle.ec_cycle.proofs.master.forget.Given as goal

abbrev pub invariant-loop-part : goal.invariant-loop-part
invariant-loop-part l = (k : ℕ) → k < l.part-index → get_or l.kept k None ≡ None
