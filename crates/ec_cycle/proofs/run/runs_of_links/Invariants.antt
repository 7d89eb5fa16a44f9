use Rattle.std.proofs.Common.{◌≡◌, map, take}
use Rattle.ec_cycle.specs.Copies.{input_run}
use Rattle.ec_cycle.proofs.run.runs_of_links.Given as goal

abbrev pub invariant-loop-link : goal.invariant-loop-link
invariant-loop-link l = l.runs ≡ map (input_run l.plan) (take l.link-index l.plan.in_links)
