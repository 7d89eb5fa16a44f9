use Rattle.std.proofs.Common.{arith}
use Rattle.ec_world.proofs.Refinement.IsStep.{world_of, get-step, no-get-step}
use Rattle.ec_world.proofs.world.World.get.Goals as goal

pub returns-in-Some : goal.returns-in-Some
returns-in-Some c =
    let v = c.self.inside in
    let w = world_of v.plan.now v.start v.master v.ring v.slots v.got v.report in
    rw (← c.self.view_is) (get-step w c.args.slave c.args.offset c.in-Some.byte c.slave_mut.result.now c.app_get.new.self (omega (arith, c.if-slave-len.false, c.len.ensures)) c.slave_mut.ensures.value c.in-Some.ensures.byte c.in-Some.ensures.after)

pub returns-in-None : goal.returns-in-None
returns-in-None c =
    let v = c.self.inside in
    let w = world_of v.plan.now v.start v.master v.ring v.slots v.got v.report in
    rw (← c.self.view_is) (no-get-step w c.args.slave c.args.offset c.slave_mut.result.now c.app_get.new.self (omega (arith, c.if-slave-len.false, c.len.ensures)) c.slave_mut.ensures.value c.in-None.ensures.byte c.in-None.ensures.after)
