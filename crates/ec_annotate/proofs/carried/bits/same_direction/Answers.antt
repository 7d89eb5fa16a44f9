use Rattle.std.proofs.Common.{rules}
use Rattle.ec_annotate.proofs.carried.bits.same_direction.Goals as goal

pub returns-in-Out-In : goal.returns-in-Out-In
returns-in-Out-In c = search rules

pub returns-in-Out-In-2 : goal.returns-in-Out-In-2
returns-in-Out-In-2 c = search rules
