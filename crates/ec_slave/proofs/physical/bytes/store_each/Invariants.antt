use Rattle.std.proofs.Common.{◌≡◌, List}
use Rattle.ec_sync.specs.SyncManager.{SyncManager}
use Rattle.ec_slave.proofs.Memory.UpdatedAlong.{updated_along}
use Rattle.ec_slave.proofs.Memory.WindowBytes.{kept_byte}
use Rattle.ec_slave.proofs.physical.bytes.store_each.Given as goal

abbrev pub invariant-loop-i : goal.invariant-loop-i
invariant-loop-i l = (ms : List SyncManager) → l.memory ≡ updated_along l.i l.from l.initial.memory (kept_byte ms (record { from = l.from; bytes = l.bytes }))
