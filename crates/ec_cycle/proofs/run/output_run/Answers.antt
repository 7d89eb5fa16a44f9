use Rattle.std.proofs.Common.{◌≡◌, ap, arith, get_or}
use Rattle.ec_link.specs.Plan.{part_at, no_part}
use Rattle.ec_cycle.proofs.Runs.{output_is, output_placed}
use Rattle.ec_cycle.proofs.run.output_run.Goals as goal

pub overflow_add-result : goal.overflow_add-result
overflow_add-result c =
    let f = output_placed c.args.plan.now c.args.part c.args.link.now c.settings.result.now c.requires.usable c.requires.linked c.requires.own c.settings.ensures in
    let small = f.1 in
    omega arith

pub overflow_sub-result : goal.overflow_sub-result
overflow_sub-result c =
    let f = output_placed c.args.plan.now c.args.part c.args.link.now c.settings.result.now c.requires.usable c.requires.linked c.requires.own c.settings.ensures in
    let first = f.0 in
    let same : (get_or c.parts.result.now c.args.part no_part).address ≡ (part_at c.args.plan.now.parts c.args.part).address = ap (λ ps. (get_or ps c.args.part no_part).address) c.parts.ensures.value in
    omega arith

pub returns : goal.returns
returns c = output_is c.args.plan.now c.args.part c.args.link.now c.settings.result.now _ c.settings.ensures (ap (λ ps. (get_or ps c.args.part no_part).address) c.parts.ensures.value)
