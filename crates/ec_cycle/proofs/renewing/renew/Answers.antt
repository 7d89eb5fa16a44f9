use Rattle.std.proofs.Common.{◌≡◌, ◌∙◌, ◌++◌, ap, arith, get_or, sym}
use Rattle.ec_frame.proofs.Numbers.{all_bytes}
use Rattle.ec_link.specs.declared.plan.PartPlan.{PartPlan}
use Rattle.ec_link.specs.Plan.{part_at, no_part}
use Rattle.ec_cycle.specs.Frames.{process_bytes}
use Rattle.ec_cycle.specs.Renewing.{process_spelled}
use Rattle.ec_cycle.proofs.AnswersFrame.{length-process_bytes}
use Rattle.ec_cycle.proofs.RenewedFrame.{cut, rejoined}
use Rattle.ec_cycle.proofs.renewing.renew.Goals as goal

pub renumber_process-requires : goal.renumber_process-requires
renumber_process-requires c =
    let p = c.args.plan.now in
    let k = c.args.part in
    let n = c.requires.made.number in
    let was = c.requires.made.image in
    let same : part_at p.parts k ≡ get_or c.parts.result.now k no_part = sym (ap (λ ps. get_or ps k no_part) c.parts.ensures.value) in
    let x = cut p k n was c.args.frame.now c.split_at_mut-front.result.0.now c.split_at_mut-front.result.1.now c.requires.made.spelled c.split_at_mut-front.ensures.front c.split_at_mut-front.ensures.back in
    (n, process_bytes p k was, length-process_bytes p k was ∙ ap (λ (q : PartPlan). q.bytes) same, x.back_is ∙ ap (λ (q : PartPlan). process_spelled q n (process_bytes p k was)) same)

pub refill-requires-clause-made : goal.refill-requires-clause-made
refill-requires-clause-made c =
    let p = c.args.plan.now in
    let k = c.args.part in
    let n = c.requires.made.number in
    let was = c.requires.made.image in
    let same : part_at p.parts k ≡ get_or c.parts.result.now k no_part = sym (ap (λ ps. get_or ps k no_part) c.parts.ensures.value) in
    let x = cut p k n was c.args.frame.now c.split_at_mut-front.result.0.now c.split_at_mut-front.result.1.now c.requires.made.spelled c.split_at_mut-front.ensures.front c.split_at_mut-front.ensures.back in
    let size = length-process_bytes p k was in (
      c.args.number,
      was,
      c.renumber_process.ensures n (process_bytes p k was) (size ∙ ap (λ (q : PartPlan). q.bytes) same) (x.back_is ∙ ap (λ (q : PartPlan). process_spelled q n (process_bytes p k was)) same)
          ∙ ap (λ (q : PartPlan). process_spelled q c.args.number (process_bytes p k was)) (sym same),
    )

pub returns : goal.returns
returns c =
    let p = c.args.plan.now in
    let k = c.args.part in
    let n = c.requires.made.number in
    let was = c.requires.made.image in
    let same : part_at p.parts k ≡ get_or c.parts.result.now k no_part = sym (ap (λ ps. get_or ps k no_part) c.parts.ensures.value) in
    let x = cut p k n was c.args.frame.now c.split_at_mut-front.result.0.now c.split_at_mut-front.result.1.now c.requires.made.spelled c.split_at_mut-front.ensures.front c.split_at_mut-front.ensures.back in
    let size = length-process_bytes p k was in
    let numbered = c.renumber_process.ensures n (process_bytes p k was) (size ∙ ap (λ (q : PartPlan). q.bytes) same) (x.back_is ∙ ap (λ (q : PartPlan). process_spelled q n (process_bytes p k was)) same)
    ∙ ap (λ (q : PartPlan). process_spelled q c.args.number (process_bytes p k was)) (sym same) in
    rejoined p k n c.args.number was c.args.image.now c.args.frame.now c.split_at_mut-front.result.0.now c.split_at_mut-front.result.1.now c.renumber.new.front c.refill.new.process c.requires.made.spelled x
    (c.renumber.ensures x.low x.high _ n k x.front_is) (c.refill.ensures c.args.number was numbered)
    (all_bytes (c.renumber.new.front ++ c.refill.new.process) (λ i. omega (arith, c.type_inv.frame i)))
