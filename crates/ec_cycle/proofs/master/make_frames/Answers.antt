use Rattle.std.proofs.Common.{ℕ, ◌<◌, List, [], arith, length}
use Rattle.ec_frame.specs.Building.{bare_payload}
use Rattle.ec_frame.specs.Frame.{IsFrame}
use Rattle.ec_cycle.specs.Frames.{sent_datagrams}
use Rattle.ec_cycle.specs.MasterFields.{IsMade}
use Rattle.ec_cycle.proofs.Lists.{put_at}
use Rattle.ec_cycle.proofs.master.make_frames.Goals as goal

pub loop-part-preserved : goal.loop-part-preserved
loop-part-preserved c =
    let p = c.args.plan.now in
    let fs = c.loop-part.frames in
    let n = c.loop-part.part in
    let l : n < length fs = omega arith in
    let before = c.loop-part.invariant.0 in
    let made = c.loop-part.invariant.1 in (
      λ k b. put_at (λ (j : ℕ) (f : List ℕ). IsFrame f (bare_payload (sent_datagrams p c.args.number j c.args.image.now))) fs n c.renew.new.self [] l c.renew.ensures.spelled k (λ ne. before k (omega arith)),
      λ k b. put_at (IsMade p) fs n c.renew.new.self [] l c.renew.ensures.made k (λ ne. made k b),
    )
