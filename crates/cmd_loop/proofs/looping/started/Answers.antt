use Rattle.ec_world.proofs.StartUp.IsNew.{few-of}
use Rattle.cmd_loop.proofs.looping.started.Goals as goal

pub bring_up_for-requires-clause-few : goal.bring_up_for-requires-clause-few
bring_up_for-requires-clause-few g c = few-of c.args.machine.now c.plan-plan.result.now c.plan-plan.ensures.table c.plan-plan.ensures.accepted c.plan-plan.ensures.value
