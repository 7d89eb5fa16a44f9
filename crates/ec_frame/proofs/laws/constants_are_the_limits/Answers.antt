use Rattle.std.proofs.Common.{rules}
use Rattle.ec_frame.proofs.laws.constants_are_the_limits.Goals as goal

pub returns : goal.returns
returns c = search rules
