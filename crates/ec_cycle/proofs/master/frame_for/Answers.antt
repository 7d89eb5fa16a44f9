use Rattle.std.proofs.Common.{ℕ, ◌≡◌, ◌∙◌, List, [], ap, arith, get_or, length, subst, sym, take}
use Rattle.std.proofs.lemmas.List.{length-replicate}
use Rattle.ec_bits.specs.Bits.{zeros}
use Rattle.ec_frame.specs.Building.{bare_payload}
use Rattle.ec_frame.specs.Frame.{IsFrame}
use Rattle.ec_link.specs.declared.plan.PartPlan.{PartPlan}
use Rattle.ec_link.specs.Plan.{part_at, no_part}
use Rattle.ec_cycle.specs.Frames.{cyclic_datagrams, returned_first}
use Rattle.ec_cycle.proofs.AnswersFrame.{length-process_bytes}
use Rattle.ec_cycle.proofs.Runs.{few_of, take_zeros}
use Rattle.ec_cycle.proofs.master.frame_for.Goals as goal

pub slice_bounds-room-end : goal.slice_bounds-room-end
slice_bounds-room-end c =
    let same : (get_or c.parts.result.now c.args.part no_part).bytes ≡ (part_at c.args.plan.now.parts c.args.part).bytes = ap (λ ps. (get_or ps c.args.part no_part).bytes) c.parts.ensures.value in
    let few = few_of c.args.plan.now c.args.part c.requires.usable in
    let size : length c.blank-room.result ≡ 1422 = ap length c.blank-room.ensures ∙ length-replicate {A = ℕ} 1422 0 in
    omega arith

pub slice_bounds-sent-end : goal.slice_bounds-sent-end
slice_bounds-sent-end c =
    let same : (get_or c.parts.result.now c.args.part no_part).bytes ≡ (part_at c.args.plan.now.parts c.args.part).bytes = ap (λ ps. (get_or ps c.args.part no_part).bytes) c.parts.ensures.value in
    let few = few_of c.args.plan.now c.args.part c.requires.usable in
    sym (ap length (ap (take (get_or c.parts.result.now c.args.part no_part).bytes) c.blank-room.ensures ∙ take_zeros (get_or c.parts.result.now c.args.part no_part).bytes 1422 (omega arith)) ∙ length-replicate (get_or c.parts.result.now c.args.part no_part).bytes 0)

pub fill-requires-clause-blank : goal.fill-requires-clause-blank
fill-requires-clause-blank c =
    let same : (get_or c.parts.result.now c.args.part no_part).bytes ≡ (part_at c.args.plan.now.parts c.args.part).bytes = ap (λ ps. (get_or ps c.args.part no_part).bytes) c.parts.ensures.value in
    let few = few_of c.args.plan.now c.args.part c.requires.usable in
    ap (take (get_or c.parts.result.now c.args.part no_part).bytes) c.blank-room.ensures ∙ (take_zeros (get_or c.parts.result.now c.args.part no_part).bytes 1422 (omega arith) ∙ ap zeros same)

pub build-requires-clause-size : goal.build-requires-clause-size
build-requires-clause-size c =
    let same : (get_or c.parts.result.now c.args.part no_part).bytes ≡ (part_at c.args.plan.now.parts c.args.part).bytes = ap (λ ps. (get_or ps c.args.part no_part).bytes) c.parts.ensures.value in
    ap length c.fill.ensures ∙ (length-process_bytes c.args.plan.now c.args.part c.args.image.now ∙ sym same)

pub returns-clause-spelled : goal.returns-clause-spelled
returns-clause-spelled c =
    let k = c.args.part in
    let q : PartPlan = part_at c.args.plan.now.parts k in
    let same : get_or c.parts.result.now k no_part ≡ q = ap (λ ps. get_or ps k no_part) c.parts.ensures.value in
    subst (λ (s : List ℕ). IsFrame c.build.result.items (bare_payload (cyclic_datagrams q c.args.number k 0 (zeros 2) s (returned_first q s) []))) c.fill.ensures
    (subst (λ (x : PartPlan). IsFrame c.build.result.items (bare_payload (cyclic_datagrams x c.args.number k 0 (zeros 2) c.fill.new.sent (returned_first x c.fill.new.sent) []))) same c.build.ensures)
