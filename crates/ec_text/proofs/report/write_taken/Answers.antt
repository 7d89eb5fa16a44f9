use Rattle.std.proofs.Common.{rules}
use Rattle.ec_text.proofs.report.write_taken.Goals as goal

pub returns-else-taken : goal.returns-else-taken
returns-else-taken c = search rules
