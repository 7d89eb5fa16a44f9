use Rattle.std.proofs.Common.{◌≡◌, ◌++◌, take}
use Rattle.std.specs.List.{flat_map}
use Rattle.ec_sii.specs.Categories.{manager_words}
use Rattle.ec_sii.proofs.categories.push_managers.Given as goal

abbrev pub invariant-loop-manager : goal.invariant-loop-manager
invariant-loop-manager l = l.words ≡ l.fn.words ++ flat_map manager_words (take l.manager-index l.managers)
