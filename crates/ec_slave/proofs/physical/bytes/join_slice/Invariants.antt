use Rattle.std.proofs.Common.{◌≡◌, Some, bit_or, slice_index}
use Rattle.ec_slave.proofs.Memory.UpdatedAlong.{updated_along}
use Rattle.ec_slave.proofs.physical.bytes.join_slice.Given as goal

abbrev pub invariant-loop-k : goal.invariant-loop-k
invariant-loop-k l = l.bytes ≡ updated_along l.k 0 l.initial.bytes (λ k. Some (bit_or (slice_index l.initial.bytes k) (slice_index l.visible k)))
