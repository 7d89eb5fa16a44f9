use Rattle.std.proofs.Common.{rules}
use Rattle.ec_lines.proofs.text.add_line.Goals as goal

pub returns-clause-short : goal.returns-clause-short
returns-clause-short c = search rules
