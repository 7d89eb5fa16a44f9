use Rattle.ec_simulation.proofs.Going.{AreGone}
use Rattle.ec_simulation.specs.Observing.{Observes}
use Rattle.ec_simulation.proofs.rounds.go_rounds.Given as goal

abbrev pub invariant-loop-slot : goal.invariant-loop-slot
invariant-loop-slot g l = record {
  gone : AreGone l.slaves l.serving l.number l.initial.world l.slot l.world l.said;
  seen : Observes g.S.Watcher.observed l.initial.watcher l.initial.world l.world l.watcher;
}
