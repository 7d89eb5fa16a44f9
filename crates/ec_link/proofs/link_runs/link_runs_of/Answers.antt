use Rattle.std.proofs.lemmas.List.Elements.{All-same, All-push}
use Rattle.ec_link.specs.LinkRuns.{run_of, link_run_of}
use Rattle.ec_link.specs.Limits.{IsShortRun, HasVariable}
use Rattle.ec_link.proofs.EachFrom.{map_step}
use Rattle.ec_link.proofs.link_runs.link_runs_of.Goals as goal

pub loop-link-preserved : goal.loop-link-preserved
loop-link-preserved c = record {
  runs = map_step (run_of c.args.table.now) c.args.table.now.links c.links-link-items.result.now c.loop-link.runs c.push.new.self c.loop-link.link-index _ c.run_of-run.result c.links-link-items.ensures.value c.loop-link-test.true
      c.loop-link.invariant.runs c.run_of-run.ensures.value c.in_ok-push.ensures.ok;
  link_runs = map_step (link_run_of c.args.table.now) c.args.table.now.links c.links-link-items.result.now c.loop-link.link_runs c.push-in-loop-link.new.self c.loop-link.link-index _ c.link_run_of.result c.links-link-items.ensures.value
      c.loop-link-test.true c.loop-link.invariant.link_runs c.link_run_of.ensures.value c.in_ok-push-2.ensures.ok;
  few = All-same IsShortRun _ _ c.in_ok-push-2.ensures.ok (All-push IsShortRun c.loop-link.link_runs c.link_run_of.result c.loop-link.invariant.few c.link_run_of.ensures.few);
  there = All-same (HasVariable c.args.table.now.variables) _ _ c.in_ok-push-2.ensures.ok
      (All-push (HasVariable c.args.table.now.variables) c.loop-link.link_runs c.link_run_of.result c.loop-link.invariant.there c.link_run_of.ensures.there);
}
