use Rattle.cmd_sim.proofs.Watching.{none_more, one_more}
use Rattle.cmd_sim.proofs.watch.Watch.run.Goals as goal

pub loop-event-preserved : goal.loop-event-preserved
loop-event-preserved g c = λ v b ahead.
    c.loop-event.invariant v b
    (one_more c.loop-event.self c.loop-event.world c.args.events.now c.loop-event.event-index c.step.new.world c.step.new.self c.step.result v b c.loop-event-test.true
    c.step.ensures.step c.step.ensures.observed c.step.ensures.unobserved ahead)

pub returns : goal.returns
returns g c =
    c.loop-event.invariant c.loop-event.world c.loop-event.self (none_more c.loop-event.self c.loop-event.world c.args.events.now c.loop-event.event-index c.loop-event-test.false)
