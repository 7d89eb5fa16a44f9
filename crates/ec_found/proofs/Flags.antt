-- The tests of flags in a byte, as code makes them.
use Rattle.std.proofs.Common.{ℕ, zero, suc, ◌*◌, ◌<◌, ◌≡◌, ◌==◌, not, bit_and, arith}
use Rattle.std.specs.Int.{bit_at}
use Rattle.std.proofs.lemmas.Bool.{eq-eqb, ne_eqb}
use Rattle.std.proofs.lemmas.Nat.Bits.{and_pow, bit_at-lt}

-- where x is p or 0, as b is 1 or 0
none_of : (b x p : ℕ) → b < 2 → 0 < p → x ≡ b * p → (x == 0) ≡ not (b == 1)
none_of zero x p few some e = eq-eqb x 0 (omega (arith, e))
none_of (suc zero) x p few some e = ne_eqb x 0 (λ z. omega (arith, e, z, some))
none_of (suc (suc n)) x p few some e = absurd (omega (arith, few))

pub lrw_bit : (w : ℕ) → (bit_and w 2 == 0) ≡ not (bit_at w 1 == 1)
lrw_bit w = none_of (bit_at w 1) (bit_and w 2) 2 (bit_at-lt w 1) (omega arith) (and_pow w 1)

pub assign_bit : (w : ℕ) → (bit_and w 4 == 0) ≡ not (bit_at w 2 == 1)
assign_bit w = none_of (bit_at w 2) (bit_and w 4) 4 (bit_at-lt w 2) (omega arith) (and_pow w 2)
