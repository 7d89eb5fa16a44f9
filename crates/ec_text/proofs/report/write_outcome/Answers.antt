use Rattle.std.proofs.Common.{rules}
use Rattle.ec_text.proofs.report.write_outcome.Goals as goal

pub returns-in-Some-Err : goal.returns-in-Some-Err
returns-in-Some-Err c = search rules
