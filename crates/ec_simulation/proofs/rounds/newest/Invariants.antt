use Rattle.std.proofs.Common.{◌≡◌, drop, max}
use Rattle.ec_simulation.specs.Rounds.{greatest}
use Rattle.ec_simulation.proofs.rounds.newest.Given as goal

-- the greatest of those seen, and of those ahead
abbrev pub invariant-loop-slot : goal.invariant-loop-slot
invariant-loop-slot l = max l.newest (greatest (drop l.slot l.world.slots)) ≡ greatest l.world.slots
