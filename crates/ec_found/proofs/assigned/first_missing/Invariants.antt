use Rattle.std.proofs.Common.{◌≡◌, drop, find, not}
use Rattle.ec_found.specs.Founds.{has}
use Rattle.ec_found.proofs.assigned.first_missing.Given as goal

abbrev pub invariant-loop-index : goal.invariant-loop-index
invariant-loop-index l = find (λ i. not (has l.found i)) (drop l.index-index l.indices) ≡ find (λ i. not (has l.found i)) l.indices
