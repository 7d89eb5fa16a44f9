use Rattle.std.proofs.Common.{rules}
use Rattle.ec_world.proofs.progress.Progress.clearance_behind.Goals as goal

pub returns-in-Some : goal.returns-in-Some
returns-in-Some c = search rules
