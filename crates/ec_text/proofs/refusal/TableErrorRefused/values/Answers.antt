use Rattle.std.proofs.Common.{rules}
use Rattle.ec_text.proofs.refusal.TableErrorRefused.values.Goals as goal

pub returns-in-Some : goal.returns-in-Some
returns-in-Some c = search rules
