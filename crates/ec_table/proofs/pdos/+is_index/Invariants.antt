use Rattle.std.proofs.Common.{length}
use Rattle.ec_table.proofs.pdos.+is_index.Given as goal

abbrev pub decreases-is_index : goal.decreases-is_index
decreases-is_index l = length l.pdos.now
