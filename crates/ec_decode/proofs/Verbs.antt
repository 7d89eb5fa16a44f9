-- Words that aren't equal.
use Rattle.std.proofs.Common.{◌≡◌, ◌≢◌, ℕ, List, Bool, true, false, refl}
use Rattle.std.specs.Str.{bytes_eq}
use Rattle.std.proofs.lemmas.Slice.Eq.{bytes_eq-Decides}

pub false_from : (b : Bool) → (b ≡ true → ⊥) → b ≡ false
false_from true h = absurd (h refl)
false_from false h = refl

pub differ : (s t : List ℕ) → s ≢ t → bytes_eq s t ≡ false
differ s t h = false_from (bytes_eq s t) (λ e. h ((bytes_eq-Decides s t).0 e))
