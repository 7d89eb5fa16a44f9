use Rattle.std.proofs.Common.{◌≡◌, ◌+◌, length, List, false}
use Rattle.ec_bits.specs.Bits.{any_below, within}
use Rattle.ec_sync.specs.SyncManager.{SyncManager}
use Rattle.ec_slave.specs.Physical.{may_write_byte}
use Rattle.ec_slave.proofs.physical.bytes.takes_some.Given as goal

abbrev pub invariant-loop-i : goal.invariant-loop-i
invariant-loop-i l = (ms : List SyncManager) → any_below l.i (λ k. may_write_byte ms l.is_busy (within l.from (length l.bytes)) (l.from + k)) ≡ false
