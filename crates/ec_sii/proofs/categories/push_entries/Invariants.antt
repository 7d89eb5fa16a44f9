use Rattle.std.proofs.Common.{◌≡◌, ◌++◌, take}
use Rattle.std.specs.List.{flat_map}
use Rattle.ec_sii.specs.Categories.{entry_words}
use Rattle.ec_sii.proofs.categories.push_entries.Given as goal

abbrev pub invariant-loop-entry : goal.invariant-loop-entry
invariant-loop-entry l = l.words ≡ l.fn.words ++ flat_map entry_words (take l.entry-index l.entries)
