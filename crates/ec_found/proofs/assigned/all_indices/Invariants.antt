use Rattle.std.proofs.Common.{◌≡◌, take}
use Rattle.ec_found.specs.Founds.{indices}
use Rattle.ec_found.proofs.assigned.all_indices.Given as goal

abbrev pub invariant-loop-pdo : goal.invariant-loop-pdo
invariant-loop-pdo l = l.found ≡ indices (take l.pdo-index l.pdos)
