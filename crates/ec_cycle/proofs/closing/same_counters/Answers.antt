use Rattle.std.proofs.Common.{rules}
use Rattle.ec_cycle.proofs.closing.same_counters.Goals as goal

pub returns-in-Lrw-Lrw : goal.returns-in-Lrw-Lrw
returns-in-Lrw-Lrw c = search rules
