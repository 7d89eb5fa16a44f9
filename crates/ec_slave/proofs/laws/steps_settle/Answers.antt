use Rattle.ec_slave.proofs.FirmwareRuns.StepLaws.{settles}
use Rattle.ec_slave.proofs.laws.steps_settle.Goals as goal

pub returns-clause-settles : goal.returns-clause-settles
returns-clause-settles c = settles
