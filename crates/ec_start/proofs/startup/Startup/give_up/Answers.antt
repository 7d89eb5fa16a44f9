use Rattle.std.proofs.Common.{rules}
use Rattle.ec_start.proofs.startup.Startup.give_up.Goals as goal

pub returns-in-Ready : goal.returns-in-Ready
returns-in-Ready c = search rules
