use Rattle.ec_slave.proofs.FirmwareRuns.AssignmentsStay.{power_on_assigns, assignments_stay}
use Rattle.ec_slave.proofs.laws.assignments_are_proper.Goals as goal

pub returns-clause-power_on : goal.returns-clause-power_on
returns-clause-power_on c = power_on_assigns

pub returns-clause-stay : goal.returns-clause-stay
returns-clause-stay c = assignments_stay
