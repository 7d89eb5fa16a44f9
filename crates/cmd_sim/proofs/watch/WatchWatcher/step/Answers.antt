use Rattle.std.proofs.Common.{◌≡◌, arith, subst, Bool, true}
use Rattle.ec_world.specs.World.{IsStep}
use Rattle.cmd_sim.specs.CapturedEvents.{next_event}
use Rattle.cmd_sim.proofs.Watching.{saw_made}
use Rattle.cmd_sim.proofs.watch.WatchWatcher.step.Goals as goal

pub returns-clause-observed : goal.returns-clause-observed
returns-clause-observed g c = λ made.
    let old = c.args.world.now in let event = c.args.event in let new = c.step.new.self in
    let number : c.saturating_add-number.result ≡ next_event c.self.inside.events = omega (arith, c.saturating_add-number.ensures) in
    let step : IsStep old event new true = subst (λ (b : Bool). IsStep old event new b) c.if-not-step.false c.step.ensures.step in
    rw (← c.self.view_is) (saw_made (record { capture = c.self.inside.capture; events = c.self.inside.events }) old event new c.saturating_add-number.result c.capture_leaving.new.capture c.capture_after.new.capture
    number step c.capture_leaving.ensures.seen c.capture_leaving.ensures.unchanged c.capture_after.ensures)
