use Rattle.std.proofs.Common.{◌≡◌, ◌++◌, take}
use Rattle.ec_found.specs.Founds.{others}
use Rattle.ec_found.proofs.mapped.push_others.Given as goal

abbrev pub invariant-loop-pdo : goal.invariant-loop-pdo
invariant-loop-pdo l = l.found ≡ l.initial.found ++ others (take l.pdo-index l.pdos) l.known
