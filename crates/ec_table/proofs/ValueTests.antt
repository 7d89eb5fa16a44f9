-- What a value that was read meets, along a chain of tests.
use Rattle.std.proofs.Common.{◌≡◌, ℕ, ◌+◌, ◌≤◌, Bool, true, false, List, [], ◌∷◌, ◌++◌, Result, Ok, Err, Option, Some, None, ℤ, pos, negsuc, IsTrue, if◌then◌else◌, option_and_then, subst, arith, refl}
use Rattle.std.specs.Option.{ok_or}
use Rattle.std.proofs.lemmas.Bool.Decides.{nat_tests}
use Rattle.toml.specs.Data.{Data, Items, no_items, item, as_integer, as_str}
use Rattle.ec_table.specs.declared.fault.Fault.{Fault}
use Rattle.ec_table.specs.declared.fault.Fault.TheVariants.{BadValue}
use Rattle.ec_table.specs.declared.fault.Position.{Position}
use Rattle.ec_table.specs.Fields.{◌>>=◌, must, number_in, in_range, magnitude, name_in, is_name}
use Rattle.ec_table.specs.InOrder.{rows_after}

-- P holds of the value, if there is one
pub record Meets {A : Type 0} (r : Result A Fault) (P : A → Type 0) : Type 0 where
  pub all : (x : A) → r ≡ Ok x → P x

pub meets_ok : {A : Type 0} (P : A → Type 0) (x : A) → P x → Meets (Ok x) P
meets_ok P x p = record { all = λ y is. let e : x ≡ y = cc in subst P e p }

pub meets_err : {A : Type 0} (P : A → Type 0) (f : Fault) → Meets (Err f) P
meets_err P f = record { all = λ y is. cc }

-- one test after another
pub meets_then : {A B : Type 0} (P : A → Type 0) (Q : B → Type 0) (m : Result A Fault) (f : A → Result B Fault) → Meets m P → ((x : A) → P x → Meets (f x) Q) → Meets (m >>= f) Q
meets_then P Q (Ok x) f h k = k x (h.all x refl)
meets_then P Q (Err e) f h k = meets_err Q e

pub any_met : {A : Type 0} (m : Result A Fault) → Meets m (λ _. Unit {0})
any_met m = record { all = λ x is. tt }

-- a test that must pass did
pub must_met : (b : Bool) (f : Fault) → Meets (must b f) (λ _. b ≡ true)
must_met true f = meets_ok (λ _. true ≡ true) tt refl
must_met false f = meets_err (λ _. false ≡ true) f

pub ok_or_met : {A : Type 0} (o : Option A) (f : Fault) → Meets (ok_or o f) (λ x. o ≡ Some x)
ok_or_met (Some x) f = meets_ok (λ y. Some x ≡ Some y) x refl
ok_or_met None f = meets_err (λ y. None ≡ Some y) f

pub if_met : {A : Type 0} (P : A → Type 0) (b : Bool) (x : A) (f : Fault) → (b ≡ true → P x) → Meets (if b then Ok x else Err f) P
if_met P true x f h = meets_ok P x (h refl)
if_met P false x f h = meets_err P f

in_range_means : (low high : ℕ) (z : ℤ) → in_range low high z ≡ true → (low ≤ magnitude z) × (magnitude z ≤ high)
in_range_means low high (pos k) h = grind (arith, nat_tests)
in_range_means low high (negsuc k) h = cc

pub number_met : (p : Position) (low high : ℕ) (v : Option Data) → Meets (number_in p low high v) (λ n. (low ≤ n) × (n ≤ high))
unfolding number_in
number_met p low high v = meets_then (λ _. Unit {0}) (λ n. (low ≤ n) × (n ≤ high)) (ok_or (option_and_then as_integer v) (BadValue p)) (λ z. if in_range low high z then Ok (magnitude z) else Err (BadValue p)) (any_met _) (λ z _. if_met (λ n. (low ≤ n) × (n ≤ high)) (in_range low high z) (magnitude z) (BadValue p) (in_range_means low high z))

pub name_met : (p : Position) (v : Option Data) → Meets (name_in p v) (λ s. IsTrue (is_name s))
unfolding name_in
name_met p v = meets_then (λ _. Unit {0}) (λ s. IsTrue (is_name s)) (ok_or (option_and_then as_str v) (BadValue p)) (λ s. if is_name s then Ok s else Err (BadValue p)) (any_met _) (λ s _. if_met (λ t. IsTrue (is_name t)) (is_name s) s (BadValue p) (λ h. h))

-- rows that keep what was found
pub rows_met : {X : Type 0} (Found : List X → Type 0) (P : List X → X → Type 0) (row : ℕ → Data → List X → Result X Fault) → ((n : ℕ) (d : Data) (found : List X) → Meets (row n d found) (P found)) → ((found : List X) (x : X) → Found found → P found x → Found (found ++ x ∷ [])) → (found : List X) (n : ℕ) (ds : Items) → Found found → Meets (rows_after row found n ds) Found
unfolding rows_after
rows_met Found P row one more found n no_items h = meets_ok Found found h
rows_met Found P row one more found n (item d ds) h = meets_then (P found) Found _ _ (one n d found) (λ x p. rows_met Found P row one more (found ++ x ∷ []) (n + 1) ds (more found x h p))
