use Rattle.std.proofs.Common.{rules}
use Rattle.ec_card.proofs.ethernet.framed.Goals as goal

pub returns : goal.returns
returns c = search rules
