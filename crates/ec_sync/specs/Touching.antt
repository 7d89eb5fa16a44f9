-- What holds of a range of bytes that a datagram touches: a lemma for those who say what a datagram writes.
use Rattle.std.specs.Prelude.{ℕ, ◌+◌, ◌-◌, ◌<◌, ◌≡◌, true, false}
use Rattle.std.proofs.Common.{arith}
use Rattle.std.proofs.lemmas.Bool.Decides.{nat_tests}
use Rattle.ec_bits.specs.Bits.{within}

-- a range that reaches over the first and the last of some bytes reaches over all of them
pub all_touched : (from n start len k : ℕ) → within from n start ≡ true → within from n (start + len - 1) ≡ true → k < len → within from n (start + k) ≡ false → ⊥
all_touched from n start len k first last inside untouched = grind (arith, nat_tests, first, last, inside, untouched)
