use Rattle.std.proofs.Common.{◌≡◌, ◌+◌, is_none, if◌then◌else◌, None}
use Rattle.ec_sync.specs.Governing.{governor}
use Rattle.ec_slave.specs.Physical.{byte_from}
use Rattle.ec_slave.proofs.Memory.UpdatedAlong.{updated_along}
use Rattle.ec_slave.proofs.physical.managers.Bytes.fill_zeros.Given as goal

abbrev pub invariant-loop-k : goal.invariant-loop-k
invariant-loop-k l = l.value ≡ updated_along l.k 0 l.initial.value (λ k. if is_none (governor l.self.lower.now (l.start + k)) then byte_from (record { from = l.self.from; bytes = l.self.bytes.now }) (l.start + k) else None)
