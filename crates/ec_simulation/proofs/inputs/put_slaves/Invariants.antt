use Rattle.ec_simulation.specs.Observing.{Observes}
use Rattle.ec_simulation.proofs.InputPuts.{AreWritten}
use Rattle.ec_simulation.proofs.inputs.put_slaves.Given as goal

abbrev pub invariant-loop-slave : goal.invariant-loop-slave
invariant-loop-slave g l = record {
  written : AreWritten l.variable l.value l.initial.world l.slave l.world;
  seen : Observes g.S.Watcher.observed l.initial.watcher l.initial.world l.world l.watcher;
}
