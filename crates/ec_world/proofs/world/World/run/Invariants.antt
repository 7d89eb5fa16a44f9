use Rattle.ec_world.proofs.Words.{◌≤◌, take, IsRun}
use Rattle.ec_world.proofs.world.World.run.Given as goal

abbrev pub invariant-loop-event : goal.invariant-loop-event
invariant-loop-event l = record {
  runs : IsRun l.fn.self (take l.event-index l.events) l.self l.made;
  few : l.made ≤ l.event-index;
}
