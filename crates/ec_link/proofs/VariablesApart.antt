-- The variables of a plan stand one after another in their image, so no two have a bit in common.
use Rattle.std.proofs.Common.{◌≡◌, ◌≢◌, ℕ, ◌+◌, ◌<◌, ◌≤◌, List, length, get_or, take, refl, sym, ap, ◌∙◌, subst, inl, inr, arith, Some, slice_get}
use Rattle.std.proofs.lemmas.Option.{slice_get_within, get_or_from_slice_get}
use Rattle.std.proofs.lemmas.Bool.{cases_lt}
use Rattle.ec_table.specs.declared.rows.Direction.{Direction}
use Rattle.ec_table.specs.declared.rows.Direction.TheVariants.{Out, In}
use Rattle.ec_table.specs.declared.rows.VariableRow.{VariableRow}
use Rattle.ec_table.specs.Contents.{Contents}
use Rattle.ec_link.specs.declared.image.Variable.{Variable}
use Rattle.ec_link.specs.Image.{bits_if, image_bits, placed, image}
use Rattle.ec_link.specs.Plan.{PlanState, plan_of}
use Rattle.ec_link.specs.Interface.{VariablesAreApart}
use Rattle.ec_link.specs.Variables.{AreApart}
use Rattle.ec_link.proofs.EachFrom.{get_or-each, length-each_from}
use Rattle.ec_link.proofs.LinksOnce.{ends_before, no_variable}

-- a variable of the image, and the row that it is of
record At (ws : List VariableRow) (v : ℕ) (x : Variable) : Type 0 where
  pub there : v < length ws
  pub is : x ≡ placed ws v (get_or ws v no_variable)

at_place : (ws : List VariableRow) (v : ℕ) (x : Variable) → slice_get (image ws) v ≡ Some x → At ws v x
at_place ws v x e =
    let lt : v < length ws = omega (arith, slice_get_within (image ws) v x e, length-each_from (placed ws) 0 ws) in
    record { there = lt; is = sym (get_or_from_slice_get (image ws) v x x e) ∙ get_or-each (placed ws) ws v x no_variable lt }

own_bits : (d : Direction) (n : ℕ) → bits_if d d n ≡ n
own_bits Out n = refl
own_bits In n = refl

-- an earlier variable ends before a later one of the same direction begins
ends : (ws : List VariableRow) (v w : ℕ) (x y : Variable) → v < w → At ws v x → At ws w y → x.direction ≡ y.direction → x.from + x.bits ≤ y.from
ends ws v w x y lt a b same =
    let r : VariableRow = get_or ws v no_variable in
    let way : r.direction ≡ y.direction = ap (λ (q : Variable). q.direction) (sym a.is) ∙ same in
    let from : y.from ≡ image_bits y.direction (take w ws) = ap (λ (q : Variable). q.from) b.is ∙ ap (λ (d : Direction). image_bits d (take w ws)) (ap (λ (q : Variable). q.direction) (sym b.is)) in
    let first : x.from ≡ image_bits y.direction (take v ws) = ap (λ (q : Variable). q.from) a.is ∙ ap (λ (d : Direction). image_bits d (take v ws)) way in
    let bits : bits_if y.direction r.direction r.bits ≡ x.bits = ap (λ (d : Direction). bits_if y.direction d r.bits) way ∙ own_bits y.direction r.bits ∙ ap (λ (q : Variable). q.bits) (sym a.is) in
    let there = b.there in
    omega (arith, ends_before ws y.direction v w no_variable lt (omega arith), from, first, bits)

no_common : (ws : List VariableRow) (v w : ℕ) (x y : Variable) → v ≢ w → slice_get (image ws) v ≡ Some x → slice_get (image ws) w ≡ Some y → x.direction ≡ y.direction
    → (i j : ℕ) → i < x.bits → j < y.bits → x.from + i ≢ y.from + j
no_common ws v w x y ne ex ey same i j li lj clash =
    let a = at_place ws v x ex in
    let b = at_place ws w y ey in
    elim (cases_lt v w) [
      | inl lt ↦ omega (arith, ends ws v w x y lt a b same, clash)
      | inr ge ↦ let lt : w < v = omega arith in omega (arith, ends ws w v y x lt b a (sym same), clash)
    ]

pub plan_variables : (t : Contents) → (plan_of t).variables ≡ image t.variables
unfolding plan_of
plan_variables t = refl

pub variables_apart : (t : Contents) (p : PlanState) → p ≡ plan_of t → AreApart p.variables
variables_apart t p e = subst AreApart (sym (ap (λ (q : PlanState). q.variables) e ∙ plan_variables t)) (record { no_common = no_common t.variables })

pub bits_are_apart : VariablesAreApart
bits_are_apart t = variables_apart t (plan_of t) refl
