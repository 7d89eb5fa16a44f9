use Rattle.std.proofs.Common.{rules}
use Rattle.ec_diagnostic.proofs.remark.Remarks.at.Goals as goal

pub invariant_of-self-2 : goal.invariant_of-self-2
invariant_of-self-2 c = search rules
