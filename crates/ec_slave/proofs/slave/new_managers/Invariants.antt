use Rattle.std.proofs.Common.{◌≡◌, replicate}
use Rattle.ec_sync.specs.SyncManager.{no_manager}
use Rattle.ec_slave.proofs.slave.new_managers.Given as goal

abbrev pub invariant-loop : goal.invariant-loop
invariant-loop l = l.managers.items ≡ replicate l.counter no_manager
