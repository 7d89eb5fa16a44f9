use Rattle.ec_world.proofs.Words.{◌≡◌, is_none, take, count_by}
use Rattle.ec_world.proofs.slots.free_of.Given as goal

abbrev pub invariant-loop-slot : goal.invariant-loop-slot
invariant-loop-slot l = l.count ≡ count_by (λ o. is_none o) (take l.slot-index l.slots)
