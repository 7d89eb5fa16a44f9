use Rattle.std.proofs.Common.{◌-◌}
use Rattle.ec_world.specs.World.{WorldState}
use Rattle.ec_script.specs.declared.output.LineOutput.{LineOutput}
use Rattle.ec_simulation.specs.Work.{Waits}
use Rattle.ec_simulation.specs.Observing.{Observes}
use Rattle.ec_simulation.proofs.within.wait_until.Given as goal

-- what the cycles ahead make of it, all cycles make of the first world
abbrev pub invariant-loop : goal.invariant-loop
invariant-loop g l = record {
  ahead : (new : WorldState) (word : LineOutput) → Waits (l.times - l.counter) l.expected l.world new word → Waits l.times l.expected l.initial.world new word;
  seen : Observes g.S.Watcher.observed l.initial.watcher l.initial.world l.world l.watcher;
}
