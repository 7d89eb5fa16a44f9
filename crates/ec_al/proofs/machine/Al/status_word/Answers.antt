use Rattle.std.proofs.Common.{rules}
use Rattle.ec_al.proofs.machine.Al.status_word.Goals as goal

pub returns : goal.returns
returns c = search rules
