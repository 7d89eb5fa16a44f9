use Rattle.std.proofs.Common.{Option, option_map}
use Rattle.ec_cycle.specs.Closing.{ReturnedPart}
use Rattle.ec_cycle.proofs.Lists.{pushed_map}
use Rattle.ec_cycle.proofs.closing.counters_of.Goals as goal

pub loop-part-preserved : goal.loop-part-preserved
loop-part-preserved c =
    pushed_map (λ (o : Option ReturnedPart). option_map (λ (q : ReturnedPart). q.counters) o) c.args.kept.now c.loop-part.part-index c.part-item.result c.loop-part.counters.items c.push.new.self.items _
    c.loop-part-test.true c.part-item.is c.loop-part.invariant c.counters.ensures c.push.ensures.items
