use Rattle.ec_cycle.proofs.RenewedFrame.{front_renumbered}
use Rattle.ec_cycle.proofs.renewing.renumber.Goals as goal

pub returns : goal.returns
returns c = λ a b more n k e. front_renumbered c.args.front.now c.renumber.new.name a b c.index_of-index.result n c.args.number k more c.index_of-index.ensures e (c.renumber.ensures n k)
