use Rattle.ec_link.specs.Shares.{predicted}
use Rattle.ec_cycle.proofs.Lists.{pushed_count, pushed_each}
use Rattle.ec_cycle.proofs.master.counters_of.Goals as goal

pub loop-part-preserved : goal.loop-part-preserved
loop-part-preserved c = record {
  count = pushed_count c.loop-part.expected _ c.predicted.result c.loop-part.part c.loop-part.invariant.count c.in_ok-push.ensures.ok;
  each = pushed_each (predicted c.args.plan.now) c.loop-part.expected _ c.predicted.result c.loop-part.part c.loop-part.invariant.count c.loop-part.invariant.each c.in_ok-push.ensures.ok c.predicted.ensures.shares;
}
