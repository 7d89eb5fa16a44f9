use Rattle.std.proofs.Common.{arith}
use Rattle.ec_link.proofs.Parts.{part_small, parts_more}
use Rattle.ec_link.proofs.plan.parts_of.Goals as goal

pub loop-part-preserved : goal.loop-part-preserved
loop-part-preserved c = record {
  rest = parts_more c.args.parts.now c.loop-part.plans c.push.new.self c.loop-part.address c.loop-part.part-index _ c.loop-part-test.true c.in_ok-push.ensures.ok c.loop-part.invariant.rest;
  low = omega (arith, part_small c.args.parts.now c.loop-part.part-index c.requires.small);
}
