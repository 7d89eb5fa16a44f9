use Rattle.ec_cycle.proofs.RenewedFrame.{split_renumbered}
use Rattle.ec_cycle.proofs.renewing.renumber_process.Goals as goal

pub returns-then-part : goal.returns-then-part
returns-then-part c = λ n s size e. split_renumbered c.args.part.now n c.args.number c.index_of-index.result s c.args.process.now c.if-part-eq0.false c.if-part.true c.index_of-index.ensures size e
