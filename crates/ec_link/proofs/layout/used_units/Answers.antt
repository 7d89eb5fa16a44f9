use Rattle.ec_link.proofs.Units.{used_none, used_more, used_all}
use Rattle.ec_link.proofs.layout.used_units.Goals as goal

pub loop-size-init : goal.loop-size-init
loop-size-init c = used_none

pub loop-size-preserved : goal.loop-size-preserved
loop-size-preserved c =
    used_more c.args.sizes.now c.loop-size.used c.loop-size.size-index c.from.result _ c.requires c.loop-size-test.true c.from.ensures c.loop-size.invariant

pub returns : goal.returns
returns c = used_all c.args.sizes.now c.loop-size.used c.loop-size.size-index c.loop-size-test.false c.loop-size.invariant
