use Rattle.std.proofs.Common.{◌≡◌, map, take, All}
use Rattle.ec_link.specs.LinkRuns.{run_of, link_run_of}
use Rattle.ec_link.proofs.link_runs.link_runs_of.Given as goal
use Rattle.ec_link.specs.Limits.{IsShortRun, HasVariable}

abbrev pub invariant-loop-link : goal.invariant-loop-link
invariant-loop-link l = record {
  runs : l.runs ≡ map (run_of l.table) (take l.link-index l.table.links);
  link_runs : l.link_runs ≡ map (link_run_of l.table) (take l.link-index l.table.links);
  few : All IsShortRun l.link_runs;
  there : All (HasVariable l.table.variables) l.link_runs;
}
