use Rattle.std.proofs.Common.{drop}
use Rattle.ec_world.specs.World.{WorldState}
use Rattle.cmd_sim.specs.CapturedEvents.{CapturesRun, Watched}
use Rattle.cmd_sim.proofs.watch.Watch.run.Given as goal

-- what comes of the events ahead, comes of all
abbrev pub invariant-loop-event : goal.invariant-loop-event
invariant-loop-event g l = (v : WorldState) (b : Watched) → CapturesRun l.self l.world (drop l.event-index l.events) v b → CapturesRun l.initial.self l.initial.world l.events v b
