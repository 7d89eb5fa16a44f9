use Rattle.ec_live.proofs.Doing.{kept_idle}
use Rattle.ec_live.proofs.live.Live.drops_frame.Goals as goal

pub returns-then-not-is_pending-clause-kept : goal.returns-then-not-is_pending-clause-kept
returns-then-not-is_pending-clause-kept c = λ same. kept_idle c.args.self.now _ c.args.payload.now c.is_pending.result c.self.view_is c.is_pending.ensures c.if-not-is_pending.true
