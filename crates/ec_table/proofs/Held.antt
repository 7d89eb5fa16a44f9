-- A number as so many bits hold it, by half of their values and by its distance from 0.
use Rattle.std.proofs.Common.{◌≡◌, ℕ, ◌+◌, ◌-◌, ◌*◌, ◌^◌, ◌<◌, ◌≤◌, ℤ, pos, negsuc, ◌<ℤ◌, ◌≤ℤ◌, unsigned_abs, nat_lt, true, false, Some, None, refl, ap, arith}
use Rattle.std.proofs.lemmas.Bool.{lt-ltb, le-ltb}
use Rattle.std.proofs.lemmas.Int.{ints}
use Rattle.ec_device.specs.declared.parameter.ParameterSize.{ParameterSize}
use Rattle.ec_device.specs.declared.parameter.ParameterSize.TheVariants as sizes
use Rattle.ec_device.specs.Parameters.{bit_count}
use Rattle.ec_table.specs.Parameters.{held}

twice : (size : ParameterSize) → 2 ^ bit_count size ≡ 2 * 2 ^ (bit_count size - 1)
twice sizes.One = refl
twice sizes.Two = refl
twice sizes.Four = refl

pub above_held : (size : ParameterSize) (z : ℤ) (half d : ℕ) → half ≡ 2 ^ (bit_count size - 1) → d ≡ unsigned_abs z → pos 0 ≤ℤ z → d < 2 * half → Some d ≡ held (bit_count size) z
above_held size (pos k) half d is far sign few =
    let same : d ≡ k = far in
    let lt : nat_lt k (2 ^ bit_count size) ≡ true = lt-ltb k (2 ^ bit_count size) (omega (arith, is, same, few, twice size)) in
    rw lt (ap Some same)
above_held size (negsuc k) half d is far sign few = absurd (omega (arith, ints, sign))

pub above_none : (size : ParameterSize) (z : ℤ) (half d : ℕ) → half ≡ 2 ^ (bit_count size - 1) → d ≡ unsigned_abs z → pos 0 ≤ℤ z → 2 * half ≤ d → None ≡ held (bit_count size) z
above_none size (pos k) half d is far sign many =
    let same : d ≡ k = far in
    let ge : nat_lt k (2 ^ bit_count size) ≡ false = le-ltb k (2 ^ bit_count size) (omega (arith, is, same, many, twice size)) in
    rw ge refl
above_none size (negsuc k) half d is far sign many = absurd (omega (arith, ints, sign))

pub below_held : (size : ParameterSize) (z : ℤ) (half d : ℕ) → half ≡ 2 ^ (bit_count size - 1) → d ≡ unsigned_abs z → z <ℤ pos 0 → d ≤ half → Some (2 * half - d) ≡ held (bit_count size) z
below_held size (pos k) half d is far sign few = absurd (omega (arith, ints, sign))
below_held size (negsuc k) half d is far sign few =
    let same : d ≡ k + 1 = omega (arith, far) in
    let lt : nat_lt k (2 ^ (bit_count size - 1)) ≡ true = lt-ltb k (2 ^ (bit_count size - 1)) (omega (arith, is, same, few)) in
    let value : 2 * half - d ≡ 2 ^ bit_count size - (k + 1) = omega (arith, is, same, twice size) in
    rw lt (ap Some value)

pub below_none : (size : ParameterSize) (z : ℤ) (half d : ℕ) → half ≡ 2 ^ (bit_count size - 1) → d ≡ unsigned_abs z → z <ℤ pos 0 → half < d → None ≡ held (bit_count size) z
below_none size (pos k) half d is far sign many = absurd (omega (arith, ints, sign))
below_none size (negsuc k) half d is far sign many =
    let same : d ≡ k + 1 = omega (arith, far) in
    let ge : nat_lt k (2 ^ (bit_count size - 1)) ≡ false = le-ltb k (2 ^ (bit_count size - 1)) (omega (arith, is, same, many)) in
    rw ge refl
