use Rattle.ec_bringup.proofs.Words.{◌≡◌, map, take, drop, ◌++◌, length, served}
use Rattle.ec_bringup.proofs.turns.serve_all.Given as goal

-- the slaves before the place have served, the others not yet
abbrev pub invariant-loop-index : goal.invariant-loop-index
invariant-loop-index l = (l.ring ≡ map served (take l.index l.initial.ring) ++ drop l.index l.initial.ring) × (l.index-end ≡ length l.initial.ring)
