-- The test of a flag in a word, as `contains` makes it, is the test of its bit.
use Rattle.std.proofs.Common.{◌≡◌, ◌==◌, ℕ, zero, suc, ◌*◌, ◌<◌, arith}
use Rattle.std.specs.Int.{bit_at}
use Rattle.std.specs.Int.RustNames.{bit_and}
use Rattle.std.proofs.lemmas.Nat.Bits.{and_pow, bit_at-lt}
use Rattle.std.proofs.lemmas.Bool.Decides.{nat_tests}

-- where x is p or 0, as b is 1 or 0
multiple : (b x p : ℕ) → b < 2 → 0 < p → x ≡ b * p → (x == p) ≡ (b == 1)
multiple zero x p few some e = grind (arith, nat_tests)
multiple (suc zero) x p few some e = grind (arith, nat_tests)
multiple (suc (suc n)) x p few some e = absurd (omega arith)

pub al_flag_16 : (w : ℕ) → (bit_and w 16 == 16) ≡ (bit_at w 4 == 1)
al_flag_16 w = multiple (bit_at w 4) (bit_and w 16) 16 (bit_at-lt w 4) (omega arith) (and_pow w 4)

pub sii_flag_8192 : (w : ℕ) → (bit_and w 8192 == 8192) ≡ (bit_at w 13 == 1)
sii_flag_8192 w = multiple (bit_at w 13) (bit_and w 8192) 8192 (bit_at-lt w 13) (omega arith) (and_pow w 13)
