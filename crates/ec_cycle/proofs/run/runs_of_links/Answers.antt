use Rattle.std.proofs.Common.{◌<◌, ◌≡◌, ◌∙◌, ap, arith, get_or, length}
use Rattle.std.proofs.lemmas.List.{get_or_default}
use Rattle.ec_link.specs.declared.plan.Link.{Link}
use Rattle.ec_cycle.specs.Copies.{input_run}
use Rattle.ec_cycle.proofs.Lists.{pushed_map}
use Rattle.ec_cycle.proofs.run.runs_of_links.Goals as goal

pub loop-link-preserved : goal.loop-link-preserved
loop-link-preserved c =
    let i = c.loop-link.link-index in
    let p = c.args.plan.now in
    let links = ap length c.in_links-link-items.ensures in
    let lt : i < length p.in_links = omega arith in
    let l : Link = get_or c.in_links-link-items.result.now i (record { image = 0; slave = 0; object_bit = 0; count = 0 }) in
    let at : l ≡ get_or p.in_links i l = ap (λ ls. get_or ls i (record { image = 0; slave = 0; object_bit = 0; count = 0 })) c.in_links-link-items.ensures ∙ get_or_default p.in_links i (record { image = 0; slave = 0; object_bit = 0; count = 0 }) l lt in
    pushed_map (input_run p) p.in_links i l c.loop-link.runs c.push.new.self _ lt at c.loop-link.invariant c.input_run.ensures c.in_ok-push.ensures.ok
