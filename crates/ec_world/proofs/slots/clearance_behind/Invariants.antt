use Rattle.ec_world.proofs.Words.{◌≡◌, take, fold, flights_progress, no_end, clearance_behind}
use Rattle.ec_world.proofs.slots.clearance_behind.Given as goal

abbrev pub invariant-loop-slot : goal.invariant-loop-slot
invariant-loop-slot l = l.far ≡ fold (clearance_behind l.frame) no_end (take l.slot-index (flights_progress l.slots))
