use Rattle.ec_frame.proofs.FrameOrFault.{verdict_accepts, verdict_refuses}
use Rattle.ec_frame.proofs.checking.check.Goals as goal

pub returns-clause-accepts : goal.returns-clause-accepts
returns-clause-accepts c = verdict_accepts c.args.payload.now c.read_frame.result c.read_frame.ensures

pub returns-clause-refuses : goal.returns-clause-refuses
returns-clause-refuses c = verdict_refuses c.args.payload.now c.read_frame.result c.read_frame.ensures
