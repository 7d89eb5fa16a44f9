use Rattle.std.proofs.Common.{ℕ, ◌<◌, ◌≡◌, Some, slice_get}
use Rattle.ec_slave.specs.State.{SlaveState}
use Rattle.ec_slave.specs.Sound.{IsSlave}
use Rattle.ec_ring.proofs.ring.show_slaves.Given as goal

abbrev pub invariant-loop-k : goal.invariant-loop-k
invariant-loop-k l = (place : ℕ) → place < l.k → (s : SlaveState) → slice_get l.slaves place ≡ Some s → IsSlave s
