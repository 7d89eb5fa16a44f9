-- The parts of a wait are no longer than the wait.
use Rattle.std.proofs.Common.{ℕ, ◌*◌, ◌/◌, ◌≤◌, ◌≡◌, Some, subst, sym, ap, ◌∙◌, div-mul-le_self}
use Rattle.std.specs.Duration.{as_nanos}
use Rattle.std.specs.declared.time.Duration.{Duration}
use Rattle.ec_wire.specs.declared.patience.Patience.TheVariants.{For}
use Rattle.ec_wire.specs.Waiting.{AreWithin}

pub parts_within : (whole part : Duration) (parts count : ℕ) → as_nanos part ≡ as_nanos whole / parts → count ≡ parts → AreWithin (For whole) (Some part) count
parts_within whole part parts count each same =
    subst (λ (n : ℕ). n * count ≤ as_nanos whole) (sym (each ∙ ap (λ (n : ℕ). as_nanos whole / n) (sym same))) (div-mul-le_self (as_nanos whole) count)
