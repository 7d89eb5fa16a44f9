use Rattle.ec_decode.proofs.Places.{passed_more}
use Rattle.ec_decode.proofs.located.front_of.Goals as goal

pub loop-len-preserved : goal.loop-len-preserved
loop-len-preserved c = passed_more c.args.area.now c.loop-len.rest.now c.split_at.result.1.now c.loop-len.whole c.in-Some.len c.loop-len.invariant c.in-Some.ensures.found c.split_at.ensures.back
