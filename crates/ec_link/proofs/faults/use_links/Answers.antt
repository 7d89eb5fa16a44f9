use Rattle.std.proofs.Common.{◌≤◌}
use Rattle.ec_link.proofs.UsedLinks.{seen_none, seen_all}
use Rattle.std.proofs.Common.{◌≡◌, ◌∙◌, ◌<◌, List, sym, ap, subst, get_or, length, slice_set}
use Rattle.std.proofs.lemmas.List.{length-set, get_or_default}
use Rattle.ec_table.specs.declared.rows.LinkRow.{LinkRow}
use Rattle.ec_link.specs.VariableUse.{use_with, nothing_used}
use Rattle.ec_link.proofs.UsedLinks.{seen_step}
use Rattle.ec_link.proofs.faults.use_links.Goals as goal

pub loop-link-preserved : goal.loop-link-preserved
loop-link-preserved c =
    let ls : List LinkRow = c.links-link-items.result.now in
    let none : LinkRow = record { variable = 0; slave = 0; index = 0; subindex = 0; bits = record { variable_bit = 0; entry_bit = 0; count = 0 } } in
    let l : LinkRow = get_or ls c.loop-link.link-index none in
    let same : ls ≡ c.args.table.now.links = c.links-link-items.ensures.value in
    let lt : c.loop-link.link-index < length c.args.table.now.links = subst (λ (xs : List LinkRow). c.loop-link.link-index < length xs) same c.loop-link-test.true in
    let is : l ≡ get_or c.args.table.now.links c.loop-link.link-index l = get_or_default ls c.loop-link.link-index none l c.loop-link-test.true ∙ ap (λ (xs : List LinkRow). get_or xs c.loop-link.link-index l) same in
    let there : l.variable < length c.args.table.now.variables = subst (λ (k : LinkRow). k.variable < length c.args.table.now.variables) (sym is) (c.links-link-items.ensures.sound c.loop-link.link-index l lt).variable in
    let value : c.use_with.result ≡ use_with (get_or c.loop-link.uses l.variable nothing_used) _ = c.use_with.ensures ∙ ap (use_with (get_or c.loop-link.uses l.variable nothing_used)) c.unit_of_link-unit.ensures in
    seen_step c.args.table.now c.loop-link.link-index l c.loop-link.uses (slice_set c.loop-link.uses l.variable c.use_with.result) nothing_used c.loop-link.invariant lt is there
    (ap (slice_set c.loop-link.uses l.variable) value) (length-set c.loop-link.uses l.variable c.use_with.result)

pub returns : goal.returns
returns c =
    seen_all c.args.table.now c.loop-link.link-index c.loop-link.uses c.loop-link.invariant (subst (λ (ls : List LinkRow). length ls ≤ c.loop-link.link-index) c.links-link-items.ensures.value c.loop-link-test.false)

pub loop-link-init : goal.loop-link-init
loop-link-init c = seen_none c.args.table.now c.args.uses.now c.requires.as_many c.requires.fresh
