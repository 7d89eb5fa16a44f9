use Rattle.std.proofs.Common.{rules}
use Rattle.ec_console.proofs.explain.Explanation.explain_stream.Goals as goal

pub returns-in-Some : goal.returns-in-Some
returns-in-Some c = search rules
