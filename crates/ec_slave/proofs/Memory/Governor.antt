-- Who governs a byte, among all managers and among the lower-numbered ones.
use Rattle.std.proofs.Common.{ℕ, zero, suc, ◌+◌, ◌<◌, ◌≡◌, ◌≢◌, Bool, true, false, Option, is_none, Some, None, refl, sym, ◌∙◌, ap, arith, List, [], ◌∷◌, ◌++◌, length, take, append_assoc, inl, inr}
use Rattle.std.specs.List.{position_from}
use Rattle.std.proofs.lemmas.Bool.{and_left, and_right, cases_Bool, false≢true}
use Rattle.std.proofs.lemmas.List.{append-nil}
use Rattle.ec_bits.proofs.AnyLaws.{any_below_none, if_true, if_false}
use Rattle.ec_regs.specs.declared.fmmu.FmmuSettings.{FmmuSettings}
use Rattle.ec_sync.specs.SyncManager.{SyncManager}
use Rattle.ec_slave.specs.State.{manager_at}
use Rattle.ec_regs.specs.Managers.{is_set}
use Rattle.ec_sync.specs.Governing.{covers, governor, governs}
use Rattle.ec_fmmu.specs.Applied.{LogicalSpan, touched_by_reading, touched_by_writing}
use Rattle.ec_slave.specs.Managers.{gets_at, is_ungoverned, manager_after}
use Rattle.ec_slave.specs.Logical.{logical_value, logical_managers}
use Rattle.ec_slave.proofs.Memory.AgainstAll.{governs-value}

position_from-take : (t : SyncManager → Bool) (k n : ℕ) (ms : List SyncManager) → position_from t k ms ≡ Some (k + n) → position_from t k (take n ms) ≡ None
position_from-take t k zero ms e = refl
position_from-take t k (suc n) [] e = refl
position_from-take t k (suc n) (m ∷ ms) e = elim (cases_Bool (t m)) as (λ _. position_from t k (take (suc n) (m ∷ ms)) ≡ None) [
  | inl h ↦
      let f : Some k ≡ Some (k + suc n) = sym (if_true (t m) (Some k) (position_from t (k + 1) ms) h) ∙ e in
      let g : k ≡ k + suc n = cc in
      absurd (omega arith)
  | inr h ↦
      let s : k + suc n ≡ k + 1 + n = omega arith in
      let f : position_from t (k + 1) ms ≡ Some (k + 1 + n) = sym (if_false (t m) (Some k) (position_from t (k + 1) ms) h) ∙ (e ∙ ap (λ i. Some i) s) in
      if_false (t m) (Some k) (position_from t (k + 1) (take n ms)) h ∙ position_from-take t (k + 1) n ms f
]

-- no manager below a byte's governor governs it
pub governor-take : (ms : List SyncManager) (n a : ℕ) → governor ms a ≡ Some n → governor (take n ms) a ≡ None
governor-take ms n a e =
    let s : n ≡ 0 + n = omega arith in
    position_from-take (λ m. governs m a) 0 n ms (e ∙ ap (λ i. Some i) s)

-- a manager that has a byte in its span governs it where no lower one does
pub position_from-first : (t : SyncManager → Bool) (k n : ℕ) (ms : List SyncManager) → n < length ms → position_from t k (take n ms) ≡ None → t (manager_at ms n) ≡ true → position_from t k ms ≡ Some (k + n)
position_from-first t k n [] l none h = absurd (omega arith)
position_from-first t k zero (m ∷ ms) l none h =
    let z : k ≡ k + zero = omega arith in
    if_true _ _ _ h ∙ ap (λ i. Some i) z
position_from-first t k (suc n) (m ∷ ms) l none h = elim (cases_Bool (t m)) [
  | inl y ↦ absurd (let f : Some k ≡ None = sym (if_true (t m) (Some k) (position_from t (k + 1) (take n ms)) y) ∙ none in cc)
  | inr y ↦
      let rest : position_from t (k + 1) (take n ms) ≡ None = sym (if_false (t m) (Some k) (position_from t (k + 1) (take n ms)) y) ∙ none in
      let s : k + 1 + n ≡ k + suc n = omega arith in
      if_false _ _ _ y ∙ (position_from-first t (k + 1) n ms (omega arith) rest h ∙ ap (λ i. Some i) s)
]

-- and its value is its own there
pub own-governor : (ms : List SyncManager) (n k : ℕ) → n < length ms → is_set (manager_at ms n).settings ≡ true → k < (manager_at ms n).settings.length
    → is_ungoverned (take n ms) ((manager_at ms n).settings.start + k) ≡ true → governor ms ((manager_at ms n).settings.start + k) ≡ Some n
own-governor ms n k l set inside own =
    let a : ℕ = (manager_at ms n).settings.start + k in
    let z : 0 + n ≡ n = omega arith in
    position_from-first (λ (m : SyncManager). governs m a) 0 n ms l (none-is (governor (take n ms) a) own) (governs-value (manager_at ms n) k set inside) ∙ ap (λ i. Some i) z
  where
    none-is : (o : Option ℕ) → is_none o ≡ true → o ≡ None
    none-is None e = refl
    none-is (Some i) e = absurd (false≢true e)

-- an access doesn't get at a manager where another one governs all that it touches
pub others-untouched : (ms : List SyncManager) (t : ℕ → Bool) (n other : ℕ) → n < length ms → n ≢ other → is_set (manager_at ms n).settings ≡ true
    → ((a : ℕ) → t a ≡ true → governor ms a ≡ Some other) → gets_at t (is_ungoverned (take n ms)) (manager_at ms n) ≡ false
others-untouched ms t n other l ne set governed =
    let m : SyncManager = manager_at ms n in
    and_right (covers t m) _ (any_below_none m.settings.length _ (λ k inside. elim (cases_Bool (t (m.settings.start + k))) [
      | inl touched ↦ elim (cases_Bool (is_ungoverned (take n ms) (m.settings.start + k))) [
        | inl own ↦
            let e : Some n ≡ Some other = sym (own-governor ms n k l set inside own) ∙ governed (m.settings.start + k) touched in
            let f : n ≡ other = cc in
            absurd (ne f)
        | inr f ↦ and_right _ _ f
      ]
      | inr f ↦ and_left _ _ f
    ]))

pub length-logical_managers : (lower : List SyncManager) (reading writing : Bool) (fs : List FmmuSettings) (p : LogicalSpan) (bytes : List ℕ) (ms : List SyncManager)
    → length (logical_managers lower reading writing fs p bytes ms) ≡ length ms
length-logical_managers lower reading writing fs p bytes [] = refl
length-logical_managers lower reading writing fs p bytes (m ∷ ms) = ap suc (length-logical_managers (lower ++ m ∷ []) reading writing fs p bytes ms)

-- a manager after a logical datagram depends on itself and the lower-numbered ones alone
pub manager_at-exchanged : (lower : List SyncManager) (reading writing : Bool) (fs : List FmmuSettings) (p : LogicalSpan) (bytes : List ℕ) (ms : List SyncManager) (n : ℕ) → n < length ms
    → manager_at (logical_managers lower reading writing fs p bytes ms) n
    ≡ manager_after reading writing (touched_by_reading fs p) (touched_by_writing fs p) (is_ungoverned (lower ++ take n ms)) (logical_value (lower ++ take n ms) fs p bytes) (manager_at ms n)
manager_at-exchanged lower reading writing fs p bytes [] n h = absurd (omega arith)
manager_at-exchanged lower reading writing fs p bytes (m ∷ ms) zero h =
    let e : lower ++ [] ≡ lower = append-nil lower in
    ap (λ xs. manager_after reading writing (touched_by_reading fs p) (touched_by_writing fs p) (is_ungoverned xs) (logical_value xs fs p bytes) m) (sym e)
manager_at-exchanged lower reading writing fs p bytes (m ∷ ms) (suc n) h =
    manager_at-exchanged (lower ++ m ∷ []) reading writing fs p bytes ms n (omega arith)
    ∙ ap (λ xs. manager_after reading writing (touched_by_reading fs p) (touched_by_writing fs p) (is_ungoverned xs) (logical_value xs fs p bytes) (manager_at ms n)) (append_assoc lower (m ∷ []) (take n ms))
