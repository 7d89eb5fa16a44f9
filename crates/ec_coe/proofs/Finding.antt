-- What a search in a list finds.
use Rattle.std.proofs.Common.{ℕ, zero, suc, ◌-◌, ◌≤◌, ◌≡◌, ◌≢◌, Bool, Option, Some, None, refl, sym, ◌∙◌, ap, subst, inl, inr, arith, List, [], ◌∷◌, ◌++◌, length, find, All, slice_get, map, option_map, option_copied, IfSome, ◌==◌, Bor}
use Rattle.std.proofs.lemmas.Bool.{cases_Bool}
use Rattle.std.proofs.lemmas.List.Folds.{find-append}
use Rattle.std.specs.Option.{option_or}
use Rattle.std.proofs.lemmas.Option.{slice_get-map}
use Rattle.ec_bits.proofs.AnyLaws.{if_true, if_false}
use Rattle.ec_device.specs.declared.slave_type.Pdo.{Pdo}
use Rattle.ec_device.specs.Types.{ArePdos, pdo_bits}
use Rattle.ec_device.specs.Objects.{pdo_at}
use Rattle.ec_device.proofs.Limits.{few_bits}

-- what holds of each element holds of the one that is found
pub find-all : {X : Type 0} (P : X → Type 0) (test : X → Bool) (xs : List X) (x : X) → All P xs → find test xs ≡ Some x → P x
find-all P test [] x h e = absurd (let f : None ≡ Some x = e in cc)
find-all P test (y ∷ ys) x h e = elim (cases_Bool (test y)) [
  | inl t ↦ let same : Some y ≡ Some x = sym (if_true _ _ _ t) ∙ e in let is : y ≡ x = cc in subst P is (h 0 y (omega arith))
  | inr f ↦ find-all P test ys x (λ k d l. h (suc k) d (omega arith)) (sym (if_false _ _ _ f) ∙ e)
]

-- an element behind the first
pub slice_get-behind : {X : Type 0} (x : X) (xs : List X) (k : ℕ) → k ≢ 0 → slice_get (x ∷ xs) k ≡ slice_get xs (k - 1)
slice_get-behind x xs zero ne = absurd (ne refl)
slice_get-behind x xs (suc k) ne = let e : suc k - 1 ≡ k = omega arith in sym (ap (slice_get xs) e)

-- a PDO that is found by its index has few entries
pub few-found : (first : ℕ) (ps : List Pdo) (index : ℕ) (o : Option (Bor Pdo)) → ArePdos first ps → option_copied o ≡ pdo_at ps index → IfSome o (λ p. length p.now.entries ≤ 64)
few-found first ps index None h e = tt
few-found first ps index (Some p) h e = let few : (length p.now.entries ≤ 64) × (pdo_bits p.now ≤ 4096) = find-all (λ (q : Pdo). (length q.entries ≤ 64) × (pdo_bits q ≤ 4096)) (λ (q : Pdo). q.index == index) ps p.now (few_bits first ps h) (sym e) in few.0

-- the first list is searched first
pub found-first : (ps qs : List Pdo) (index : ℕ) (p : Pdo) → Some p ≡ pdo_at ps index → Some p ≡ pdo_at (ps ++ qs) index
found-first ps qs index p e = sym (find-append (λ (q : Pdo). q.index == index) ps qs ∙ ap (λ (o : Option Pdo). option_or o (pdo_at qs index)) (sym e))

pub found-second : (ps qs : List Pdo) (index : ℕ) (o : Option Pdo) → None ≡ pdo_at ps index → o ≡ pdo_at qs index → o ≡ pdo_at (ps ++ qs) index
found-second ps qs index o e f = f ∙ sym (find-append (λ (q : Pdo). q.index == index) ps qs ∙ ap (λ (x : Option Pdo). option_or x (pdo_at qs index)) (sym e))

-- what a `get` of a slice gave stands in the list behind a first element
pub value-behind : {A B : Type 0} (f : A → B) (x : B) (xs : List A) (k : ℕ) (a : A) → k ≢ 0 → slice_get xs (k - 1) ≡ Some a → Some (f a) ≡ slice_get (x ∷ map f xs) k
value-behind f x xs k a ne e = sym (slice_get-behind x (map f xs) k ne ∙ (slice_get-map f xs (k - 1) ∙ ap (option_map f) e))

pub none-behind : {A B : Type 0} (f : A → B) (x : B) (xs : List A) (k : ℕ) → k ≢ 0 → slice_get xs (k - 1) ≡ None → None ≡ slice_get (x ∷ map f xs) k
none-behind f x xs k ne e = sym (slice_get-behind x (map f xs) k ne ∙ (slice_get-map f xs (k - 1) ∙ ap (option_map f) e))
