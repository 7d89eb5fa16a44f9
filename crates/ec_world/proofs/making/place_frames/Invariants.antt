use Rattle.ec_world.proofs.Words.{◌≡◌, drop, filled, flights_from, cycle_frames}
use Rattle.ec_world.proofs.making.place_frames.Given as goal

abbrev pub invariant-loop-part : goal.invariant-loop-part
invariant-loop-part l =
    filled (flights_from l.number l.part (drop l.part (cycle_frames l.fn.master.cycle))) l.slots
    ≡ filled (flights_from l.number 0 (cycle_frames l.fn.master.cycle)) l.initial.slots
