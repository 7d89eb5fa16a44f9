use Rattle.std.proofs.Common.{◌≡◌, drop}
use Rattle.std.specs.List.{list_any}
use Rattle.ec_link.specs.Entries.{is_named}
use Rattle.ec_found.proofs.assigned.has_name.Given as goal

abbrev pub invariant-loop-entry : goal.invariant-loop-entry
invariant-loop-entry l = list_any (is_named l.index l.subindex) (drop l.entry-index l.entries) ≡ list_any (is_named l.index l.subindex) l.entries
