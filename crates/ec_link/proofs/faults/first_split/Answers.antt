use Rattle.std.proofs.Common.{◌≡◌, ◌∙◌, ◌<◌, List, ap, sym, subst, length, false}
use Rattle.ec_table.specs.declared.rows.VariableRow.{VariableRow}
use Rattle.ec_link.specs.Faults.{split_variable}
use Rattle.ec_link.proofs.FaultTests.{first_next}
use Rattle.ec_link.proofs.UsedLinks.{not_split, out_not_split}
use Rattle.ec_link.proofs.faults.first_split.Goals as goal
use Rattle.ec_link.proofs.faults.first_split.Goals.{else-not-is_out-via-then-not-is_out+else-uses-index, else-not-is_out-via-else-not-is_out}

pub loop-index-preserved : goal.loop-index-preserved
loop-index-preserved c =
    let lt : c.loop-index.index < length c.args.table.now.variables = subst (λ (ws : List VariableRow). c.loop-index.index < length ws) c.variables-variable-items.ensures.value c.loop-index-test.true in
    let passes : split_variable c.args.table.now c.loop-index.index c.variable-item.result ≡ false = elim c.else-not-is_out.branch [
      | else-not-is_out-via-then-not-is_out+else-uses-index w ↦ not_split c.args.table.now c.args.uses.now c.loop-index.index c.variable-item.result _ c.requires lt w.if-uses-index.false
      | else-not-is_out-via-else-not-is_out w ↦ out_not_split c.args.table.now c.loop-index.index c.variable-item.result (sym c.is_out.ensures ∙ w.if-not-is_out.false)
    ] in
    first_next (split_variable c.args.table.now) c.args.table.now.variables c.variables-variable-items.result.now c.loop-index.index c.variable-item.result _ c.variables-variable-items.ensures.value c.loop-index-test.true
    (ap (split_variable c.args.table.now c.loop-index.index) (sym c.variable-item.is) ∙ passes) c.loop-index.invariant
