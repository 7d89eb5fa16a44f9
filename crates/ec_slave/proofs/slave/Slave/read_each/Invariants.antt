use Rattle.std.proofs.Common.{◌≡◌, ◌+◌, Some, slice_index}
use Rattle.ec_slave.specs.Physical.{byte_at}
use Rattle.ec_slave.proofs.Memory.UpdatedAlong.{updated_along}
use Rattle.ec_slave.proofs.Memory.WindowBytes.{over}
use Rattle.ec_slave.proofs.slave.Slave.read_each.Given as goal

abbrev pub invariant-loop-k : goal.invariant-loop-k
invariant-loop-k l = l.bytes ≡ updated_along l.k 0 l.initial.bytes (λ k. Some (over l.joining (slice_index l.initial.bytes k) (byte_at l.self (l.first + k))))
