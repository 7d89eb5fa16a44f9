use Rattle.std.proofs.Common.{◌≡◌, filter, take}
use Rattle.ec_found.specs.Founds.{has_index, indices}
use Rattle.ec_found.proofs.assigned.known_indices.Given as goal

abbrev pub invariant-loop-pdo : goal.invariant-loop-pdo
invariant-loop-pdo l = l.found ≡ filter (has_index l.known) (indices (take l.pdo-index l.pdos))
