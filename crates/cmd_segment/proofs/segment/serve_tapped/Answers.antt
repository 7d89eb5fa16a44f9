use Rattle.std.proofs.Common.{ap}
use Rattle.cmd_segment.proofs.SegmentLemmas.{tapped_serves}
use Rattle.cmd_segment.proofs.segment.serve_tapped.Goals as goal

pub returns-in-Some-clause-serves : goal.returns-in-Some-clause-serves
returns-in-Some-clause-serves g c =
    tapped_serves g.W.Wire.state c.args.frames _ c.args.slaves.now c.print_served_segment-ended.new.slaves (g.W.Wire.state c.args.wire) c.new-tapped.result.wire c.print_served_segment-ended.new.wire.wire
    c.into_parts-recording.result.0 _ _ c.print_served_segment-ended.result (ap (λ t. t.wire) c.new-tapped.ensures) c.into_parts-recording.ensures.wire c.print_served_segment-ended.ensures
