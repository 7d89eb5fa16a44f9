use Rattle.std.proofs.Common.{ℕ, ◌≡◌, List, []}
use Rattle.ec_cycle.specs.declared.run.BitRun.{BitRun}
use Rattle.ec_cycle.specs.Copies.{output_runs}
use Rattle.ec_cycle.proofs.Lists.{pushed_at, pushed_count}
use Rattle.ec_cycle.proofs.run.runs_by_part.Goals as goal

pub loop-part-preserved : goal.loop-part-preserved
loop-part-preserved c = record {
  count = pushed_count c.loop-part.runs c.push.new.self _ c.loop-part.part c.loop-part.invariant.count c.in_ok-push.ensures.ok;
  each = pushed_at (λ (k : ℕ) (r : List BitRun). r ≡ output_runs c.args.plan.now k) c.loop-part.runs c.push.new.self _ [] c.loop-part.part c.loop-part.invariant.count c.loop-part.invariant.each c.in_ok-push.ensures.ok c.in_ok-runs_of_outputs.ensures;
}
