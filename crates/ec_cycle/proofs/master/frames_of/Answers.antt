use Rattle.std.proofs.Common.{[], sym, subst}
use Rattle.ec_cycle.specs.MasterFields.{IsMade}
use Rattle.ec_cycle.proofs.Lists.{pushed_at, pushed_count}
use Rattle.ec_cycle.proofs.master.frames_of.Goals as goal

pub loop-part-preserved : goal.loop-part-preserved
loop-part-preserved c =
    let p = c.args.plan.now in
    let n = c.loop-part.part in
    let count = c.loop-part.invariant.0 in (
      pushed_count c.loop-part.frames.items c.push.new.self.items c.new.result n count c.in_ok-push.ensures.items,
      pushed_at (IsMade p) c.loop-part.frames.items c.push.new.self.items c.new.result [] n count c.loop-part.invariant.1 c.in_ok-push.ensures.items
          (subst (IsMade p n) (sym c.new.ensures) c.frame_for-frame.ensures.made),
    )
