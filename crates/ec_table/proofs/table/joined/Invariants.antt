use Rattle.std.proofs.Common.{◌≡◌, ◌++◌, take}
use Rattle.ec_table.proofs.table.joined.Given as goal

abbrev pub invariant-loop-parameter : goal.invariant-loop-parameter
invariant-loop-parameter l = l.all ≡ l.first ++ take l.parameter-index l.second
