-- Bits of a value that are brought one after the other, and the bytes of such a value.
use Rattle.std.specs.Prelude.{ℕ, ◌+◌, ◌-◌, ◌<◌, ◌≡◌, List, if◌then◌else◌, nat_lt, Some, None, true, false}
use Rattle.std.proofs.Common.{arith}
use Rattle.std.proofs.lemmas.Bool.Decides.{nat_tests}
use Rattle.ec_bits.specs.Bits.{bit, overlay, within, zeros}

-- `len` bytes with those of `count` data bits, beginning with bit `at`, that are left behind the first `skipped`; else 0
abbrev pub bits_from : List ℕ → ℕ → ℕ → ℕ → ℕ → List ℕ
bits_from bytes at count skipped len = overlay (zeros len) (λ k. if nat_lt (skipped + k) count then Some (bit bytes (at + (skipped + k))) else None)

-- a range that reaches over the first and the last of some bytes reaches over all of them
pub reaches_all : (from n start len k : ℕ) → within from n start ≡ true → within from n (start + len - 1) ≡ true → k < len → within from n (start + k) ≡ false → ⊥
reaches_all from n start len k first last inside untouched = grind (arith, nat_tests, first, last, inside, untouched)
