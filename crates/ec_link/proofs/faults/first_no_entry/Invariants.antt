use Rattle.std.proofs.Common.{◌≡◌, drop, is_none}
use Rattle.ec_link.specs.Faults.{first_at, no_entry}
use Rattle.ec_link.proofs.faults.first_no_entry.Given as goal

abbrev pub invariant-loop-index : goal.invariant-loop-index
invariant-loop-index l = first_at (λ n o. is_none o) l.index (drop l.index l.runs) ≡ first_at (λ n k. no_entry l.table k) 0 l.table.links
