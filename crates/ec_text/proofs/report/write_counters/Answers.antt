use Rattle.ec_text.specs.ReportText.{counter_at}
use Rattle.ec_text.proofs.Lines.{lines_at}
use Rattle.ec_text.proofs.report.write_counters.Goals as goal

pub loop-index-preserved : goal.loop-index-preserved
loop-index-preserved c = lines_at (counter_at c.args.counters.now) c.args.parts.now _ _ _ c.loop-index.index _ c.loop-index-test.true c.in_ok-write_part.ensures c.loop-index.invariant
