use Rattle.std.proofs.Common.{arith}
use Rattle.ec_world.proofs.Refinement.IsStep.{world_of, fault-step}
use Rattle.ec_world.proofs.world.World.fault.Goals as goal

pub returns : goal.returns
returns c =
    let v = c.self.inside in
    let w = world_of v.plan.now v.start v.master v.ring v.slots v.got v.report in
    rw (← c.self.view_is) (fault-step w c.args.slave c.fault.result c.slave_mut.result.now c.fault.new.self (omega (arith, c.if-slave-len.false, c.len.ensures)) c.slave_mut.ensures.value c.fault.ensures.taken c.fault.ensures.after)
