use Rattle.std.proofs.Common.{◌≡◌, map, filter, take}
use Rattle.ec_cycle.specs.Copies.{is_of_part, output_run}
use Rattle.ec_cycle.proofs.run.runs_of_part.Given as goal

abbrev pub invariant-loop-link : goal.invariant-loop-link
invariant-loop-link l = l.runs ≡ map (output_run l.plan l.part) (filter (is_of_part l.plan l.part) (take l.link-index l.plan.out_links))
