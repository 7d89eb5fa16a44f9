use Rattle.std.proofs.Common.{◌≡◌, ap, arith, get_or, length}
use Rattle.ec_link.specs.Plan.{part_at, no_part}
use Rattle.ec_cycle.proofs.Runs.{input_is, input_placed}
use Rattle.ec_cycle.proofs.run.input_run.Goals as goal

pub overflow_add-result : goal.overflow_add-result
overflow_add-result c =
    let f = input_placed c.args.plan.now c.args.link.now c.settings-settings.result.now c.requires.usable c.requires.linked c.settings-settings.ensures in
    let small = f.2 in
    omega arith

pub overflow_sub-result : goal.overflow_sub-result
overflow_sub-result c =
    let f = input_placed c.args.plan.now c.args.link.now c.settings-settings.result.now c.requires.usable c.requires.linked c.settings-settings.ensures in
    let first = f.1 in
    let k = c.settings-settings.result.now.share.part in
    let same : (get_or c.parts.result.now k no_part).address ≡ (part_at c.args.plan.now.parts k).address = ap (λ ps. (get_or ps k no_part).address) c.parts.ensures.value in
    omega arith

pub bounds-parts-part : goal.bounds-parts-part
bounds-parts-part c =
    let f = input_placed c.args.plan.now c.args.link.now c.settings-settings.result.now c.requires.usable c.requires.linked c.settings-settings.ensures in
    let there = f.0 in
    let same = ap length c.parts.ensures.value in
    omega arith

pub offset_bounds-parts-part : goal.offset_bounds-parts-part
offset_bounds-parts-part c =
    let f = input_placed c.args.plan.now c.args.link.now c.settings-settings.result.now c.requires.usable c.requires.linked c.settings-settings.ensures in
    let there = f.0 in
    let few = c.requires.usable.few_parts in
    omega arith

pub returns : goal.returns
returns c =
    let k = c.settings-settings.result.now.share.part in
    input_is c.args.plan.now c.args.link.now c.settings-settings.result.now _ c.settings-settings.ensures (ap (λ ps. get_or ps k no_part) c.parts.ensures.value)
