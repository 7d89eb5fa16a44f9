use Rattle.std.proofs.Common.{◌≡◌, drop}
use Rattle.ec_link.specs.Entries.{names_twice}
use Rattle.ec_found.proofs.assigned.is_some_twice.Given as goal

abbrev pub invariant-loop-place : goal.invariant-loop-place
invariant-loop-place l = names_twice (drop l.place l.entries) ≡ names_twice l.entries
