use Rattle.std.proofs.Common.{length}
use Rattle.ec_table.proofs.pdos.+have_twice.Given as goal

abbrev pub decreases-have_twice : goal.decreases-have_twice
decreases-have_twice l = length l.pdos.now
