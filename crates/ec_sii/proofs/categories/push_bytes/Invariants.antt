use Rattle.std.proofs.Common.{◌≡◌, ◌++◌, ◌*◌, take}
use Rattle.ec_sii.specs.Categories.{words_of}
use Rattle.ec_sii.proofs.categories.push_bytes.Given as goal

abbrev pub invariant-loop-k : goal.invariant-loop-k
invariant-loop-k l = l.words ≡ l.fn.words ++ words_of (take (2 * l.k) l.bytes)
