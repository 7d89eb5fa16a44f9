use Rattle.std.proofs.Common.{◌≡◌, drop}
use Rattle.ec_link.specs.LinkRuns.{linked_twice}
use Rattle.ec_link.specs.Faults.{first_at}
use Rattle.ec_link.proofs.pairs.first_of_pairs.Given as goal

abbrev pub invariant-loop-place : goal.invariant-loop-place
invariant-loop-place l = first_at (linked_twice l.link_runs) l.place (drop l.place l.link_runs) ≡ first_at (linked_twice l.link_runs) 0 l.link_runs
