use Rattle.std.proofs.Common.{length}
use Rattle.ec_table.proofs.slaves.+are_indices.Given as goal

abbrev pub decreases-are_indices : goal.decreases-are_indices
decreases-are_indices l = length l.numbers.now
