-- The variables of one direction have no bit of the image in common.
use Rattle.std.specs.Prelude.{ℕ, ◌+◌, ◌<◌, ◌≡◌, ◌≢◌, List, Some, slice_get}
use Rattle.ec_link.specs.declared.image.Variable.{Variable}

pub record AreApart (vs : List Variable) : Type 0 where
  pub no_common : (v w : ℕ) (x y : Variable) → v ≢ w → slice_get vs v ≡ Some x → slice_get vs w ≡ Some y → x.direction ≡ y.direction
      → (i j : ℕ) → i < x.bits → j < y.bits → x.from + i ≢ y.from + j
