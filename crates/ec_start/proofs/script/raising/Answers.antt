use Rattle.std.proofs.Common.{rules}
use Rattle.ec_start.proofs.script.raising.Goals as goal

pub returns-in-1-clause-value : goal.returns-in-1-clause-value
returns-in-1-clause-value c = search rules
