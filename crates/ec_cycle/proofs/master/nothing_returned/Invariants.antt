use Rattle.std.proofs.Common.{◌≡◌, length}
use Rattle.ec_cycle.proofs.master.nothing_returned.Given as goal

abbrev pub invariant-loop-n : goal.invariant-loop-n
invariant-loop-n l = length l.kept.items ≡ l.n
