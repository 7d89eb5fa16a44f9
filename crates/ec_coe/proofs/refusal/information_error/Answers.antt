use Rattle.std.proofs.Common.{rules}
use Rattle.ec_coe.proofs.refusal.information_error.Goals as goal

pub returns : goal.returns
returns c = search rules
