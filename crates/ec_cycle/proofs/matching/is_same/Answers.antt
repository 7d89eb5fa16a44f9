use Rattle.std.proofs.Common.{rules, tests}
use Rattle.ec_cycle.proofs.matching.is_same.Goals as goal

pub returns-then-n-lt2 : goal.returns-then-n-lt2
returns-then-n-lt2 c = search (rules, tests)

pub returns-else-eq : goal.returns-else-eq
returns-else-eq c = search rules
