use Rattle.std.proofs.Common.{◌≡◌, ◌++◌, take}
use Rattle.ec_link.proofs.objects.FewEntries.push_all.Given as goal

abbrev pub invariant-loop-entry : goal.invariant-loop-entry
invariant-loop-entry l = l.self ≡ l.fn.self ++ take l.entry-index l.entries
