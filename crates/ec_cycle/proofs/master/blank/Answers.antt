use Rattle.std.proofs.Common.{rules}
use Rattle.ec_cycle.proofs.master.blank.Goals as goal

pub returns : goal.returns
returns c = search rules
