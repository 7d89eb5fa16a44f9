use Rattle.std.proofs.Common.{◌≡◌, is_some}
use Rattle.ec_bits.specs.Bits.{any_below}
use Rattle.ec_slave.specs.Physical.{setting_for}
use Rattle.ec_slave.proofs.physical.managers.is_configured.Given as goal

abbrev pub invariant-loop-k : goal.invariant-loop-k
invariant-loop-k l = l.is_some ≡ any_below l.k (λ k. is_some (setting_for l.kind.hardware (record { from = l.from; bytes = l.bytes }) l.place k))
