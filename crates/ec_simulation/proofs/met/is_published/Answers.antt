use Rattle.std.proofs.Common.{rules}
use Rattle.ec_simulation.proofs.met.is_published.Goals as goal

pub returns-then-not-is_of : goal.returns-then-not-is_of
returns-then-not-is_of c = search rules
