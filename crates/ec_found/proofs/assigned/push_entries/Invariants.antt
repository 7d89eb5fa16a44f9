use Rattle.std.proofs.Common.{◌≡◌, ◌++◌, take}
use Rattle.ec_found.proofs.assigned.push_entries.Given as goal

abbrev pub invariant-loop-entry : goal.invariant-loop-entry
invariant-loop-entry l = l.found ≡ l.initial.found ++ take l.entry-index l.entries
