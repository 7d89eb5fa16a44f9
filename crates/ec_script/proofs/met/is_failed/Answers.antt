use Rattle.std.proofs.Common.{rules}
use Rattle.ec_script.proofs.met.is_failed.Goals as goal

pub returns-in-Some-Err-Some : goal.returns-in-Some-Err-Some
returns-in-Some-Err-Some c = search rules
