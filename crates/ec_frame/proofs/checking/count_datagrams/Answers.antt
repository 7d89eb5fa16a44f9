use Rattle.std.proofs.Common.{arith}
use Rattle.ec_frame.proofs.WalkSteps.{walk_ends, walk_more, shape_len}
use Rattle.ec_frame.proofs.checking.count_datagrams.Goals as goal

pub returns-then-shape : goal.returns-then-shape
returns-then-shape c = walk_ends c.args.area.now c.loop-shape.rest.now c.loop-shape.count c.in_ok-shape.shape c.loop-shape.invariant.walked c.in_ok-shape.ensures c.if-shape.true

pub loop-shape-preserved : goal.loop-shape-preserved
loop-shape-preserved c =
    let s = c.in_ok-shape.shape in
    let m = walk_more c.args.area.now c.loop-shape.rest.now c.split_at.result.1.now c.loop-shape.count s c.loop-shape.invariant.walked c.in_ok-shape.ensures c.if-shape.false c.split_at.ensures.back in
    let len = shape_len c.loop-shape.rest.now s c.in_ok-shape.ensures in
    record { some = m.0; walked = m.1; small = omega arith }
