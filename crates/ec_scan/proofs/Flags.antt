-- The test of CoE's bit in a word, as code makes it.
use Rattle.std.proofs.Common.{ℕ, zero, suc, ◌*◌, ◌<◌, ◌≡◌, ◌==◌, not, bit_and, ap, arith}
use Rattle.std.specs.Int.{bit_at}
use Rattle.std.proofs.lemmas.Bool.{eq-eqb, ne_eqb}
use Rattle.std.proofs.lemmas.Nat.Bits.{and_pow, bit_at-lt}

-- where x is p or 0, as b is 1 or 0
some_of : (b x p : ℕ) → b < 2 → 0 < p → x ≡ b * p → not (x == 0) ≡ (b == 1)
some_of zero x p few some e = ap not (eq-eqb x 0 (omega (arith, e)))
some_of (suc zero) x p few some e = ap not (ne_eqb x 0 (λ z. omega (arith, e, z, some)))
some_of (suc (suc n)) x p few some e = absurd (omega (arith, few))

pub coe_bit : (w : ℕ) → not (bit_and w 4 == 0) ≡ (bit_at w 2 == 1)
coe_bit w = some_of (bit_at w 2) (bit_and w 4) 4 (bit_at-lt w 2) (omega arith) (and_pow w 2)
