-- Where neither of two tests passes, and a name that a row has.
use Rattle.std.proofs.Common.{◌≡◌, ◌||◌, ℕ, List, Bool, true, false, Result, Ok, Err, IfOk, sym, refl, ◌∙◌}
use Rattle.ec_table.specs.Names.{is_named}

-- the first doesn't
pub or_left : (a b : Bool) → false ≡ (a || b) → a ≡ false
or_left false b h = refl
or_left true b h = sym h

-- a name that no row found has, if the row that was made has it
pub fresh_as_named : {X E : Type 0} (name_of : X → List ℕ) (made : Result X E) (name : List ℕ) (taken : Bool) (found : List X) → IfOk made (λ x. (name_of x ≡ name) × (taken ≡ false)) → taken ≡ is_named name_of name found
    → IfOk made (λ x. is_named name_of (name_of x) found ≡ false)
fresh_as_named name_of (Ok x) name taken found is has = rw is.0 (sym has ∙ is.1)
fresh_as_named name_of (Err e) name taken found is has = tt

-- a row has the name that it was given, which isn't taken
pub once_named : {X E : Type 0} (name_of : X → List ℕ) (made : Result X E) (name : List ℕ) (taken : Bool) → IfOk made (λ x. name_of x ≡ name) → taken ≡ false → IfOk made (λ x. (name_of x ≡ name) × (taken ≡ false))
once_named name_of (Ok x) name taken is fresh = (is, fresh)
once_named name_of (Err e) name taken is fresh = tt
