use Rattle.std.proofs.Common.{◌≡◌, ◌++◌, take}
use Rattle.ec_sii.proofs.categories.push_all.Given as goal

abbrev pub invariant-loop-word : goal.invariant-loop-word
invariant-loop-word l = l.words ≡ l.fn.words ++ take l.word-index l.more
