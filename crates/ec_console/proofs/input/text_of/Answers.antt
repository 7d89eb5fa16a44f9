use Rattle.std.proofs.Common.{rules}
use Rattle.ec_console.proofs.input.text_of.Goals as goal

pub returns-clause-short : goal.returns-clause-short
returns-clause-short c = search rules
