-- Managers by their number: one that was indexed, and which is the first that governs a byte.
use Rattle.std.proofs.Common.{ℕ, zero, suc, ◌+◌, ◌<◌, ◌≡◌, Bool, true, false, Some, None, List, [], ◌∷◌, length, take, get_or, refl, sym, ◌∙◌, ap, arith, inl, inr}
use Rattle.std.specs.List.{position_from}
use Rattle.std.proofs.lemmas.Bool.{both_ways, cases_Bool, cases_lt}
use Rattle.ec_bits.specs.Bits.{any_below}
use Rattle.ec_bits.proofs.AnyLaws.{any_below_from, any_below_none, if_true, if_false}
use Rattle.ec_sync.specs.SyncManager.{SyncManager, no_manager}
use Rattle.ec_exchange.specs.Values.{manager_at}

get_or-any : (ms : List SyncManager) (n : ℕ) (a b : SyncManager) → n < length ms → get_or ms n a ≡ get_or ms n b
get_or-any [] n a b l = absurd (omega arith)
get_or-any (m ∷ ms) zero a b l = refl
get_or-any (m ∷ ms) (suc n) a b l = get_or-any ms n a b (omega arith)

-- an element that was indexed is the manager of that number
pub indexed : (ms ns : List SyncManager) (n : ℕ) (m : SyncManager) → n < length ms → m ≡ get_or ms n m → ms ≡ ns → m ≡ manager_at ns n
indexed ms ns n m l e h = e ∙ (get_or-any ms n m no_manager l ∙ ap (λ (k : List SyncManager). get_or k n no_manager) h)

-- a manager that has a byte in its span governs it where no lower one does
pub position_from-first : (t : SyncManager → Bool) (k n : ℕ) (ms : List SyncManager) → n < length ms → position_from t k (take n ms) ≡ None → t (manager_at ms n) ≡ true → position_from t k ms ≡ Some (k + n)
position_from-first t k n [] l none h = absurd (omega arith)
position_from-first t k zero (m ∷ ms) l none h =
    let z : k ≡ k + zero = omega arith in
    if_true _ _ _ h ∙ ap (λ i. Some i) z
position_from-first t k (suc n) (m ∷ ms) l none h = elim (cases_Bool (t m)) [
  | inl y ↦ absurd (let f : Some k ≡ None = sym (if_true (t m) (Some k) (position_from t (k + 1) (take n ms)) y) ∙ none in cc)
  | inr y ↦
      let rest : position_from t (k + 1) (take n ms) ≡ None = sym (if_false (t m) (Some k) (position_from t (k + 1) (take n ms)) y) ∙ none in
      let s : k + 1 + n ≡ k + suc n = omega arith in
      if_false _ _ _ y ∙ (position_from-first t (k + 1) n ms (omega arith) rest h ∙ ap (λ i. Some i) s)
]

-- and none of one more, where that one doesn't
pub position_from-more : (t : SyncManager → Bool) (k n : ℕ) (ms : List SyncManager) → n < length ms → position_from t k (take n ms) ≡ None → t (manager_at ms n) ≡ false → position_from t k (take (suc n) ms) ≡ None
position_from-more t k n [] l none h = absurd (omega arith)
position_from-more t k zero (m ∷ ms) l none h = if_false (t m) (Some k) None h
position_from-more t k (suc n) (m ∷ ms) l none h = elim (cases_Bool (t m)) as (λ _. position_from t k (take (suc (suc n)) (m ∷ ms)) ≡ None) [
  | inl y ↦ absurd (let f : Some k ≡ None = sym (if_true (t m) (Some k) (position_from t (k + 1) (take n ms)) y) ∙ none in cc)
  | inr y ↦
      let rest : position_from t (k + 1) (take n ms) ≡ None = sym (if_false (t m) (Some k) (position_from t (k + 1) (take n ms)) y) ∙ none in
      if_false (t m) (Some k) (position_from t (k + 1) (take (suc n) ms)) y ∙ position_from-more t (k + 1) n ms (omega arith) rest h
]

-- where none passes so far, and one more doesn't
pub none_more : (n : ℕ) (p : ℕ → Bool) → p n ≡ false → any_below n p ≡ false → any_below (n + 1) p ≡ false
none_more n p a b = any_below_none (n + 1) p (λ i l. elim (cases_lt i n) as (λ _. p i ≡ false) [
  | inl before ↦ elim (cases_Bool (p i)) as (λ _. p i ≡ false) [
    | inl t ↦ absurd (both_ways (any_below n p) b (any_below_from n p i before t))
    | inr f ↦ f
  ]
  | inr behind ↦ let e : i ≡ n = omega (arith, l, behind) in ap p e ∙ a
])
