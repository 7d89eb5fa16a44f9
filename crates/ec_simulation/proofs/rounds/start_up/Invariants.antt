use Rattle.std.proofs.Common.{◌-◌}
use Rattle.ec_world.specs.World.{WorldState}
use Rattle.ec_script.specs.declared.output.LineOutput.{LineOutput}
use Rattle.ec_simulation.specs.Work.{Starts, last_turn}
use Rattle.ec_simulation.specs.Observing.{Observes}
use Rattle.ec_simulation.proofs.rounds.start_up.Given as goal

-- what the turns ahead make of it, all turns make of the first world
abbrev pub invariant-loop : goal.invariant-loop
invariant-loop g l = record {
  ahead : (new : WorldState) (word : LineOutput) → Starts (last_turn - l.counter) l.world new word → Starts last_turn l.initial.world new word;
  seen : Observes g.S.Watcher.observed l.initial.watcher l.initial.world l.world l.watcher;
}
