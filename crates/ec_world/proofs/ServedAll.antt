-- Slaves that make a firmware step, one after another.
use Rattle.std.proofs.Common.{◌≡◌, ◌∙◌, ℕ, zero, suc, ◌+◌, ◌≤◌, List, [], ◌∷◌, length, map, set, slice_get, Some, refl, sym, ap, arith, add-one}
use Rattle.ec_slave.specs.State.{SlaveState}
use Rattle.ec_slave.specs.Serving.{served}

-- the first n slaves made their steps
abbrev pub served_to : ℕ → List SlaveState → List SlaveState
served_to zero ss = ss
served_to (suc n) [] = []
served_to (suc n) (s ∷ ss) = served s ∷ served_to n ss

pub as_many : (n : ℕ) (ss : List SlaveState) → length (served_to n ss) ≡ length ss
as_many zero ss = refl
as_many (suc n) [] = refl
as_many (suc n) (s ∷ ss) = ap suc (as_many n ss)

next : (n : ℕ) (ss : List SlaveState) (s : SlaveState) → slice_get (served_to n ss) n ≡ Some s → set (served_to n ss) n (served s) ≡ served_to (suc n) ss
next zero [] s is = cc
next zero (t ∷ ss) s is = let same : t ≡ s = cc in ap (λ (x : SlaveState). served x ∷ ss) (sym same)
next (suc n) [] s is = cc
next (suc n) (t ∷ ss) s is = ap (λ (xs : List SlaveState). served t ∷ xs) (next n ss s is)

-- one slave more
pub served_next : (n : ℕ) (old now new : List SlaveState) (s t : SlaveState) → now ≡ served_to n old → slice_get now n ≡ Some s → t ≡ served s → new ≡ set now n t → new ≡ served_to (n + 1) old
served_next n old now new s t is there step sets =
    sets ∙ ap (λ (x : SlaveState). set now n x) step ∙ ap (λ (xs : List SlaveState). set xs n (served s)) is
    ∙ next n old s (ap (λ (xs : List SlaveState). slice_get xs n) (sym is) ∙ there) ∙ ap (λ (k : ℕ). served_to k old) (sym (add-one n))

-- all of them
pub served_all : (n : ℕ) (old : List SlaveState) → length old ≤ n → served_to n old ≡ map served old
served_all zero [] le = refl
served_all zero (s ∷ ss) le = absurd (omega arith)
served_all (suc n) [] le = refl
served_all (suc n) (s ∷ ss) le = ap (λ (xs : List SlaveState). served s ∷ xs) (served_all n ss (omega arith))
