use Rattle.std.proofs.Common.{◌*◌, ◌≡◌}
use Rattle.ec_bits.specs.Bits.{copied}
use Rattle.ec_bits.proofs.by_words.shift_all.Given as goal

abbrev pub invariant-loop-w : goal.invariant-loop-w
invariant-loop-w l = l.dst ≡ copied l.fn.dst 0 l.src l.shift (64 * l.w)
