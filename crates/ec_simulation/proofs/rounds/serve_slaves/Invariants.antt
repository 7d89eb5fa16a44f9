use Rattle.std.proofs.Common.{◌≡◌, true}
use Rattle.ec_world.specs.NewWorld.{servings}
use Rattle.ec_script.specs.Outputs.{is_done}
use Rattle.ec_simulation.specs.Work.{MakesAll}
use Rattle.ec_simulation.specs.Observing.{Observes}
use Rattle.ec_simulation.proofs.rounds.serve_slaves.Given as goal

abbrev pub invariant-loop-slave : goal.invariant-loop-slave
invariant-loop-slave g l = record {
  made : MakesAll (servings 0 l.slave) l.initial.world l.world l.said;
  going : is_done l.said ≡ true;
  seen : Observes g.S.Watcher.observed l.initial.watcher l.initial.world l.world l.watcher;
}
