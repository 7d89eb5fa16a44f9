use Rattle.std.proofs.Common.{◌≡◌, take}
use Rattle.std.specs.List.{flat_map}
use Rattle.ec_sii.specs.Categories.{pdo_words}
use Rattle.ec_sii.proofs.categories.pdos_words.Given as goal

abbrev pub invariant-loop-pdo : goal.invariant-loop-pdo
invariant-loop-pdo l = l.words ≡ flat_map (pdo_words l.manager) (take l.pdo-index l.pdos)
