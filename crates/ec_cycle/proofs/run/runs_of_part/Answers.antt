use Rattle.std.proofs.Common.{◌<◌, ◌≡◌, ◌∙◌, ap, arith, get_or, length, sym}
use Rattle.std.proofs.lemmas.List.{get_or_default}
use Rattle.ec_link.specs.declared.plan.Link.{Link}
use Rattle.ec_link.specs.Usable.{IsOutLink}
use Rattle.ec_cycle.proofs.Runs.{filter_more, filter_same, item_at}
use Rattle.ec_cycle.proofs.run.runs_of_part.Goals as goal
use Rattle.ec_cycle.proofs.run.runs_of_part.Goals.{then-is_of_part+in_ok-push, else-is_of_part}

pub loop-link-preserved : goal.loop-link-preserved
loop-link-preserved c =
    let i = c.loop-link.link-index in
    let p = c.args.plan.now in
    let links = ap length c.out_links-link-items.ensures in
    let lt : c.loop-link.link-index < length c.args.plan.now.out_links = omega arith in
    let l : Link = get_or c.out_links-link-items.result.now i (record { image = 0; slave = 0; object_bit = 0; count = 0 }) in
    let at : l ≡ get_or p.out_links i l = ap (λ ls. get_or ls i (record { image = 0; slave = 0; object_bit = 0; count = 0 })) c.out_links-link-items.ensures ∙ get_or_default p.out_links i (record { image = 0; slave = 0; object_bit = 0; count = 0 }) l lt in
    elim c.if-is_of_part.branch [
      | then-is_of_part+in_ok-push w ↦ w.runs-is ∙ filter_more p c.args.part p.out_links i l c.loop-link.runs _ w.output_run.result lt at (sym c.is_of_part.ensures ∙ w.if-is_of_part.true) c.loop-link.invariant w.output_run.ensures w.in_ok-push.ensures.ok
      | else-is_of_part w ↦ w.runs-is ∙ filter_same p c.args.part p.out_links i l c.loop-link.runs lt at (sym c.is_of_part.ensures ∙ w.if-is_of_part.false) c.loop-link.invariant
    ]

pub is_of_part-requires : goal.is_of_part-requires
is_of_part-requires c =
    let i = c.loop-link.link-index in
    let p = c.args.plan.now in
    let links = ap length c.out_links-link-items.ensures in
    let lt : i < length p.out_links = omega arith in
    let l : Link = get_or c.out_links-link-items.result.now i (record { image = 0; slave = 0; object_bit = 0; count = 0 }) in
    let at : l ≡ get_or p.out_links i l = ap (λ ls. get_or ls i (record { image = 0; slave = 0; object_bit = 0; count = 0 })) c.out_links-link-items.ensures ∙ get_or_default p.out_links i (record { image = 0; slave = 0; object_bit = 0; count = 0 }) l lt in
    item_at (IsOutLink p) p.out_links i l c.requires.usable.out_links lt at

pub output_run-requires-clause-linked : goal.output_run-requires-clause-linked
output_run-requires-clause-linked c =
    let i = c.loop-link.link-index in
    let p = c.args.plan.now in
    let links = ap length c.out_links-link-items.ensures in
    let lt : i < length p.out_links = omega arith in
    let l : Link = get_or c.out_links-link-items.result.now i (record { image = 0; slave = 0; object_bit = 0; count = 0 }) in
    let at : l ≡ get_or p.out_links i l = ap (λ ls. get_or ls i (record { image = 0; slave = 0; object_bit = 0; count = 0 })) c.out_links-link-items.ensures ∙ get_or_default p.out_links i (record { image = 0; slave = 0; object_bit = 0; count = 0 }) l lt in
    item_at (IsOutLink p) p.out_links i l c.requires.usable.out_links lt at
