use Rattle.std.proofs.Common.{ℕ, ◌≡◌, arith, length, subst}
use Rattle.ec_capture.specs.Recordings.{Notes}
use Rattle.cmd_sim.specs.CapturedEvents.{captured_parts}
use Rattle.cmd_sim.proofs.Watching.{parts_more}
use Rattle.cmd_sim.proofs.watch.capture_parts.Goals as goal

pub loop-part-preserved : goal.loop-part-preserved
loop-part-preserved g c =
    parts_more c.args.time c.args.world.now c.loop-part.part c.args.capture.now c.loop-part.capture c.capture_sent.new.capture c.loop-part.invariant c.capture_sent.ensures

pub returns : goal.returns
returns g c =
    let all : c.loop-part.part ≡ length c.args.world.now.master.plan.parts = omega (arith, c.loop-part-test.false, c.parts-part-end.ensures) in
    subst (λ (n : ℕ). Notes (captured_parts c.args.time c.args.world.now n) c.args.capture.now c.loop-part.capture) all c.loop-part.invariant
