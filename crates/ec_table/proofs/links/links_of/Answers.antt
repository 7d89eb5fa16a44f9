use Rattle.std.proofs.Common.{sym, ◌∙◌, arith}
use Rattle.std.proofs.lemmas.Grind.{common_steps}
use Rattle.ec_table.specs.Reading.{link_element}
use Rattle.ec_table.proofs.SectionRows.{row_told, rows_next}
use Rattle.ec_table.proofs.links.links_of.Goals as goal

pub returns-in_err-row : goal.returns-in_err-row
returns-in_err-row c =
    row_told (link_element c.args.format c.args.slaves.now c.args.variables.now) c.loop-value.found _ _ c.in-Some.value _ c.len.result c.in_err-row.field-0.0 c.from_residual.result c.in-Some.ensures.steps.0 c.loop-value.invariant.0 c.len.ensures c.in_err-row.ensures c.from_residual.ensures

pub loop-value-preserved : goal.loop-value-preserved
loop-value-preserved c = (
  rows_next (link_element c.args.format c.args.slaves.now c.args.variables.now) c.loop-value.found c.push.new.self _ _ c.in-Some.value c.in_ok-row.row c.in-Some.ensures.steps.0 (rw c.len.ensures at (sym c.in_ok-row.ensures)) c.in_ok-push.ensures.ok ∙ c.loop-value.invariant.0,
  grind (arith, common_steps),
)

pub loop-value-preserved-in_ok-push : goal.loop-value-preserved-in_ok-push
loop-value-preserved-in_ok-push c = (
  rows_next (link_element c.args.format c.args.slaves.now c.args.variables.now) c.loop-value.found c.push.new.self _ _ c.in-Some.value c.in_ok-row.row c.in-Some.ensures.steps.0 (rw c.len.ensures at (sym c.in_ok-row.ensures)) c.in_ok-push.ensures.ok ∙ c.loop-value.invariant.0,
  grind (arith, common_steps),
)

pub loop-value-preserved-in_ok-push-2 : goal.loop-value-preserved-in_ok-push-2
loop-value-preserved-in_ok-push-2 c = (
  rows_next (link_element c.args.format c.args.slaves.now c.args.variables.now) c.loop-value.found c.push.new.self _ _ c.in-Some.value c.in_ok-row.row c.in-Some.ensures.steps.0 (rw c.len.ensures at (sym c.in_ok-row.ensures)) c.in_ok-push.ensures.ok ∙ c.loop-value.invariant.0,
  grind (arith, common_steps),
)

pub loop-value-preserved-in_ok-push-3 : goal.loop-value-preserved-in_ok-push-3
loop-value-preserved-in_ok-push-3 c = (
  rows_next (link_element c.args.format c.args.slaves.now c.args.variables.now) c.loop-value.found c.push.new.self _ _ c.in-Some.value c.in_ok-row.row c.in-Some.ensures.steps.0 (rw c.len.ensures at (sym c.in_ok-row.ensures)) c.in_ok-push.ensures.ok ∙ c.loop-value.invariant.0,
  grind (arith, common_steps),
)
