use Rattle.std.proofs.Common.{◌≡◌, map, take}
use Rattle.ec_cycle.specs.Closing.{joined, word_of_returned}
use Rattle.ec_cycle.proofs.closing.words_of.Given as goal

abbrev pub invariant-loop-part : goal.invariant-loop-part
invariant-loop-part l = l.words ≡ joined (map word_of_returned (take l.part-index l.kept))
