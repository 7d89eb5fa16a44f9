-- Where a variable of the table stands in the image, and that a linked bit is one of a variable.
use Rattle.std.proofs.Common.{ℕ, ◌<◌, ◌≡◌, Option, Some, None, refl, sym, ◌∙◌, ap, subst, arith, List, length, slice_get}
use Rattle.std.specs.Option.{option_map_or}
use Rattle.std.proofs.lemmas.Option.{slice_get-get_or, slice_get_within, get_or_from_slice_get}
use Rattle.ec_table.specs.declared.rows.Direction.TheVariants.{Out}
use Rattle.ec_table.specs.declared.rows.VariableRow.{VariableRow}
use Rattle.ec_table.specs.declared.rows.LinkRow.{LinkRow}
use Rattle.ec_link.specs.declared.image.Variable.{Variable}
use Rattle.ec_link.specs.LinkRuns.{variable_bits}
use Rattle.ec_link.specs.Image.{image, placed}
use Rattle.ec_link.specs.Interface.{HasBit, LinkedBitsAreThere, VariablesArePlaced}
use Rattle.ec_link.proofs.EachFrom.{get_or-each, length-each_from}
use Rattle.ec_link.proofs.LinksFit.{LinkFits, links_fit}
use Rattle.ec_link.proofs.LinksOnce.{no_variable}
use Rattle.ec_link.proofs.PlanSound.{no_fault}
use Rattle.ec_link.proofs.VariablesApart.{plan_variables}

-- where it stands in the image
variable_there : (ws : List VariableRow) (x : ℕ) (row : VariableRow) → slice_get ws x ≡ Some row → slice_get (image ws) x ≡ Some (placed ws x row)
variable_there ws x row e =
    let lt : x < length ws = slice_get_within ws x row e in
    let n = length-each_from (placed ws) 0 ws in
    let no : Variable = placed ws x no_variable in
    slice_get-get_or (image ws) x no (omega (arith, lt, n))
    ∙ (ap (λ (v : Variable). Some v) (get_or-each (placed ws) ws x no no_variable lt)
    ∙ ap (λ (r : VariableRow). Some (placed ws x r)) (get_or_from_slice_get ws x row no_variable e))

pub variables_are_placed : VariablesArePlaced
variables_are_placed t x row e = record {
  placed = placed t.variables x row;
  there = ap (λ (vs : List Variable). slice_get vs x) (plan_variables t) ∙ variable_there t.variables x row e;
  way = refl;
  from = sym (ap (λ o. option_map_or (λ (r : VariableRow). (placed t.variables x r).from) o 0) e);
  bits = refl;
}

pub linked_bits_are_there : LinkedBitsAreThere
linked_bits_are_there t free d x b s o k = go (slice_get t.variables k.link.variable) refl
  where
    l : LinkRow
    l = k.link

    lt : k.place < length t.links
    lt = slice_get_within t.links k.place l k.there

    fits : LinkFits t l
    fits = subst (LinkFits t) (get_or_from_slice_get t.links k.place l l k.there) (links_fit t (no_fault t free).link k.place l lt)

    go : (o : Option VariableRow) → slice_get t.variables l.variable ≡ o → HasBit t d x b
    go None e = absurd (let none : variable_bits t l ≡ 0 = ap (λ q. option_map_or (λ (w : VariableRow). w.bits) q 0) e in omega (arith, none, fits.variable, k.inside))
    go (Some row) e = record {
      row = row;
      there = ap (slice_get t.variables) k.variable_is ∙ e;
      way = sym (ap (λ q. option_map_or (λ (w : VariableRow). w.direction) q Out) e) ∙ k.way;
      inside = let bits : variable_bits t l ≡ row.bits = ap (λ q. option_map_or (λ (w : VariableRow). w.bits) q 0) e in omega (arith, bits, fits.variable, k.inside, k.bit_is);
    }
