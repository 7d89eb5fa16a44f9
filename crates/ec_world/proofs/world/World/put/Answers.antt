use Rattle.std.proofs.Common.{arith}
use Rattle.ec_world.proofs.Refinement.IsStep.{world_of, put-step}
use Rattle.ec_world.proofs.world.World.put.Goals as goal

pub returns : goal.returns
returns c =
    let v = c.self.inside in
    let w = world_of v.plan.now v.start v.master v.ring v.slots v.got v.report in
    rw (← c.self.view_is) (put-step w c.args.slave c.args.offset c.args.byte c.app_put.result c.slave_mut.result.now c.app_put.new.self (omega (arith, c.if-slave-len.false, c.len.ensures)) c.slave_mut.ensures.value c.app_put.ensures.granted c.app_put.ensures.after)
