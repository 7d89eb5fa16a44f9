use Rattle.std.proofs.Common.{rules}
use Rattle.ec_diagnostic.proofs.text.without_mark.Goals as goal

pub returns-in-Some : goal.returns-in-Some
returns-in-Some c = search rules
