-- A type within its limits offers each PDO that an index names: no PDO of the other direction, and no other object, hides it.
use Rattle.ec_bringup.proofs.Words.{ℕ, suc, ◌≡◌, ◌≢◌, ◌==◌, Option, Some, refl, sym, ◌∙◌, ap, subst, inl, inr, arith, List, [], ◌∷◌, ◌++◌, All, cases_Bool, eqb-true, ne_eqb, if_true, if_false, Pdo, SlaveKind, IsPdo, IsWithinLimits, first_output_index, first_input_index, pdo_at, IsNumbered, IsOffered, ArePdos, ◌≤◌}

-- what is found has the index and the property of all
pub record Found (P : Pdo → Type 0) (x : ℕ) (p : Pdo) : Type 0 where
  pub index_is : p.index ≡ x
  pub good : P p

some-is : (q p : Pdo) → (let o : Option Pdo = Some q in o ≡ Some p) → q ≡ p
some-is q p e = cc

found : (P : Pdo → Type 0) (ps : List Pdo) (x : ℕ) (p : Pdo) → All P ps → pdo_at ps x ≡ Some p → Found P x p
found P [] x p h e = absurd (cc e)
found P (q ∷ ps) x p h e = elim (cases_Bool (q.index == x)) [
  | inl y ↦
      let z : q ≡ p = some-is q p (sym (if_true _ _ _ y) ∙ e) in
      record { index_is = ap (λ (r : Pdo). r.index) (sym z) ∙ eqb-true q.index x y; good = subst P z (h 0 q (omega arith)) }
  | inr n ↦ found P ps x p (λ k d l. h (suc k) d (omega (arith, l))) (sym (if_false _ _ _ n) ∙ e)
]

-- in the first of two lists, and in the second where the first has no such index
found-first : (ps qs : List Pdo) (x : ℕ) (p : Pdo) → pdo_at ps x ≡ Some p → pdo_at (ps ++ qs) x ≡ Some p
found-first [] qs x p e = absurd (cc e)
found-first (q ∷ ps) qs x p e = elim (cases_Bool (q.index == x)) [
  | inl y ↦ if_true _ _ _ y ∙ (sym (if_true _ _ _ y) ∙ e)
  | inr n ↦ if_false _ _ _ n ∙ found-first ps qs x p (sym (if_false _ _ _ n) ∙ e)
]

found-second : (P : Pdo → Type 0) (ps qs : List Pdo) (x : ℕ) → All P ps → ((p : Pdo) → P p → p.index ≢ x) → pdo_at (ps ++ qs) x ≡ pdo_at qs x
found-second P [] qs x h ne = refl
found-second P (q ∷ ps) qs x h ne = if_false _ _ _ (ne_eqb q.index x (ne q (h 0 q (omega arith)))) ∙ found-second P ps qs x (λ k d l. h (suc k) d (omega (arith, l))) ne

offers : (kind : SlaveKind) (first x : ℕ) (ps : List Pdo) (p : Pdo) → first_output_index ≤ first → first ≤ first_input_index → ArePdos first ps → All (λ (q : Pdo). All IsNumbered q.entries) ps
    → pdo_at ps x ≡ Some p → pdo_at (kind.outputs ++ kind.inputs) x ≡ Some p → IsOffered kind ps x
offers kind first x ps p least most h numbered e shown =
    let f = found (IsPdo first) ps x p h.each e in
    let i = f.index_is in let lo = f.good.from in let hi = f.good.below in let few = f.good.few in
    record {
      pdo = p;
      named = e;
      shown = shown;
      index_is = i;
      no_identity = λ q. omega (arith, i, lo, hi, q);
      no_name = λ q. omega (arith, i, lo, hi, q);
      no_outputs = λ q. omega (arith, i, lo, hi, q);
      no_inputs = λ q. omega (arith, i, lo, hi, q);
      few = omega (arith, few);
      small = omega (arith, i, hi);
      entries = (found (λ (q : Pdo). All IsNumbered q.entries) ps x p numbered e).good;
    }

pub offers-output : (kind : SlaveKind) (x : ℕ) (p : Pdo) → IsWithinLimits kind.mailbox kind.outputs kind.inputs → All (λ (q : Pdo). All IsNumbered q.entries) kind.outputs → pdo_at kind.outputs x ≡ Some p → IsOffered kind kind.outputs x
offers-output kind x p h numbered e = offers kind first_output_index x kind.outputs p (omega arith) (omega arith) h.outputs numbered e (found-first kind.outputs kind.inputs x p e)

pub offers-input : (kind : SlaveKind) (x : ℕ) (p : Pdo) → IsWithinLimits kind.mailbox kind.outputs kind.inputs → All (λ (q : Pdo). All IsNumbered q.entries) kind.inputs → pdo_at kind.inputs x ≡ Some p → IsOffered kind kind.inputs x
offers-input kind x p h numbered e =
    let f = found (IsPdo first_input_index) kind.inputs x p h.inputs.each e in
    offers kind first_input_index x kind.inputs p (omega arith) (omega arith) h.inputs numbered e
    (found-second (IsPdo first_output_index) kind.outputs kind.inputs x h.outputs.each (λ r g q. omega (arith, g.below, f.index_is, f.good.from, q)) ∙ e)
