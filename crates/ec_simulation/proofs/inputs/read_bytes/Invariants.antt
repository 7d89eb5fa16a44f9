use Rattle.std.proofs.Common.{◌≡◌, ℕ, ◌+◌, ◌<◌, get_or}
use Rattle.ec_simulation.specs.Inputs.{slave_byte}
use Rattle.ec_simulation.proofs.inputs.read_bytes.Given as goal

abbrev pub invariant-loop-offset : goal.invariant-loop-offset
invariant-loop-offset l = (k : ℕ) → k < l.offset → get_or l.bytes k 0 ≡ slave_byte l.world l.slave (l.start + k)
