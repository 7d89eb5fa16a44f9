use Rattle.std.proofs.Common.{rules}
use Rattle.ec_link.proofs.plan.fmmus_of.Goals as goal

pub returns : goal.returns
returns c = search rules
