-- Slots that get the indices of PDOs.
use Rattle.std.proofs.Common.{ℕ, zero, suc, ◌+◌, ◌<◌, ◌≡◌, List, [], ◌∷◌, length, get_or, slice_set, sym, ◌∙◌, ap, arith, length-set}
use Rattle.std.proofs.lemmas.Grind.{same_number_lists}
use Rattle.std.proofs.lemmas.List.{length-map}
use Rattle.std.proofs.lemmas.List.Edits.{fill_by_more}
use Rattle.ec_device.specs.declared.slave_type.Pdo.{Pdo}
use Rattle.ec_coe.specs.Objects.{indices}

-- the first k slots have their indices
pub record Assigned (slots : List ℕ) (ps : List Pdo) (k : ℕ) : Type 0 where
  pub same : length slots ≡ length ps
  pub front : (j : ℕ) → j < k → get_or slots j 0 ≡ get_or (indices ps) j 0

get-indices : (ps : List Pdo) (k : ℕ) (p : Pdo) → k < length ps → p ≡ get_or ps k p → get_or (indices ps) k 0 ≡ p.index
get-indices [] k p l e = absurd (omega arith)
get-indices (q ∷ ps) zero p l e = sym (ap (λ (x : Pdo). x.index) e)
get-indices (q ∷ ps) (suc k) p l e = get-indices ps k p (omega arith) e

pub assigned-more : (slots : List ℕ) (ps : List Pdo) (k : ℕ) (p : Pdo) → Assigned slots ps k → k < length ps → p ≡ get_or ps k p → Assigned (slice_set slots k p.index) ps (k + 1)
assigned-more slots ps k p a l e =
    let f : ℕ → ℕ = λ j. get_or (indices ps) j 0 in
    let same = a.same in
    let h : get_or (indices ps) k 0 ≡ p.index = get-indices ps k p l e in
    record {
      same = length-set slots k p.index ∙ a.same;
      front = λ j m. ap (λ x. get_or (slice_set slots k x) j 0) (sym h) ∙ fill_by_more f slots k 0 (omega (arith, same)) a.front j m;
    }

pub assigned-all : (slots : List ℕ) (ps : List Pdo) → Assigned slots ps (length ps) → slots ≡ indices ps
assigned-all slots ps a =
    let same = a.same in
    same_number_lists slots (indices ps) (a.same ∙ sym (length-map ps (λ (p : Pdo). p.index))) (λ j l. a.front j (omega (arith, same)))
