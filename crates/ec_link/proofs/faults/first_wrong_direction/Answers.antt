use Rattle.std.proofs.Common.{◌∙◌, sym}
use Rattle.ec_table.specs.declared.rows.LinkRow.{LinkRow}
use Rattle.ec_link.specs.Faults.{wrong_direction}
use Rattle.ec_link.proofs.FaultTests.{first_next}
use Rattle.ec_link.proofs.faults.first_wrong_direction.Goals as goal

pub loop-index-preserved : goal.loop-index-preserved
loop-index-preserved c =
    first_next (λ n (k : LinkRow). wrong_direction c.args.table.now k) c.args.table.now.links c.links-link-items.result.now c.loop-index.index _ _ c.links-link-items.ensures.value c.loop-index-test.true
    (sym c.is_wrong_direction.ensures ∙ c.if-is_wrong_direction.false) c.loop-index.invariant
