use Rattle.std.proofs.Common.{rules}
use Rattle.ec_wire.proofs.application.step_application.Goals as goal

pub returns-clause-stepped : goal.returns-clause-stepped
returns-clause-stepped g c = search rules
