use Rattle.std.proofs.Common.{ℕ, ◌≡◌, false, get_or, map, take}
use Rattle.ec_cycle.proofs.closing.taken_of.Given as goal

abbrev pub invariant-loop-unit : goal.invariant-loop-unit
invariant-loop-unit l = l.units_taken.items ≡ map (λ (u : ℕ). get_or l.taken u false) (take l.unit-index l.units)
