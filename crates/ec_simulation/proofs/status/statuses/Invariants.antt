use Rattle.std.proofs.Common.{◌≡◌}
use Rattle.ec_simulation.specs.Statuses.{statuses_from}
use Rattle.ec_simulation.proofs.status.statuses.Given as goal

abbrev pub invariant-loop-slave : goal.invariant-loop-slave
invariant-loop-slave l = l.states.items ≡ statuses_from l.world 0 l.slave
