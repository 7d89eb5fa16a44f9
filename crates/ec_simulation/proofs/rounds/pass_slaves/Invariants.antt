use Rattle.std.proofs.Common.{◌≡◌, replicate, true}
use Rattle.ec_world.specs.declared.event.Event.TheVariants.{Pass}
use Rattle.ec_script.specs.Outputs.{is_done}
use Rattle.ec_simulation.specs.Work.{MakesAll}
use Rattle.ec_simulation.specs.Observing.{Observes}
use Rattle.ec_simulation.proofs.rounds.pass_slaves.Given as goal

abbrev pub invariant-loop : goal.invariant-loop
invariant-loop g l = record {
  made : MakesAll (replicate l.counter (Pass l.slot)) l.initial.world l.world l.said;
  going : is_done l.said ≡ true;
  seen : Observes g.S.Watcher.observed l.initial.watcher l.initial.world l.world l.watcher;
}
