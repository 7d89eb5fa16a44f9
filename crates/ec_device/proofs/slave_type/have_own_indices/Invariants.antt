use Rattle.std.proofs.Common.{◌≢◌, ℕ, ◌<◌, length, get_or}
use Rattle.ec_device.specs.declared.slave_type.Pdo.{Pdo}
use Rattle.ec_device.proofs.slave_type.have_own_indices.Given as goal

-- each PDO before the index has an index of its own
abbrev pub invariant-loop-i : goal.invariant-loop-i
invariant-loop-i l = (a b : ℕ) (d : Pdo) → a < l.i → a < b → b < length l.pdos → (get_or l.pdos a d).index ≢ (get_or l.pdos b d).index
