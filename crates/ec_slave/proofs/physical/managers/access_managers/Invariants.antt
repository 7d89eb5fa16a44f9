use Rattle.std.proofs.Common.{◌≡◌, ◌-◌}
use Rattle.ec_slave.proofs.Memory.MetFrom.{met_from}
use Rattle.ec_slave.proofs.physical.managers.access_managers.Given as goal

abbrev pub invariant-loop-k : goal.invariant-loop-k
invariant-loop-k l = l.managers ≡ met_from l.kind.hardware l.initial.managers l.reads l.writes (record { from = l.from; bytes = l.bytes }) (4 - l.k)
