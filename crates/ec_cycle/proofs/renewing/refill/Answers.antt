use Rattle.std.proofs.Common.{◌+◌, ◌-◌, ◌≤◌, ◌≡◌, ◌∙◌, ap, arith, get_or, length, rules}
use Rattle.ec_link.specs.Plan.{part_at, no_part}
use Rattle.ec_cycle.specs.Frames.{process_bytes}
use Rattle.ec_cycle.specs.Renewing.{process_spelled}
use Rattle.ec_cycle.proofs.AnswersFrame.{length-process_bytes}
use Rattle.ec_cycle.proofs.RenewedFrame.{refilled, room_in, sent_in}
use Rattle.ec_cycle.proofs.renewing.refill.Goals as goal

pub slice_bounds-sent-end : goal.slice_bounds-sent-end
slice_bounds-sent-end c =
    let p = c.args.plan.now in
    let k = c.args.part in
    let was = c.requires.made.1 in
    let same : (get_or c.parts.result.now k no_part).bytes ≡ (part_at p.parts k).bytes = ap (λ ps. (get_or ps k no_part).bytes) c.parts.ensures.value in
    let room : 10 + (part_at p.parts k).bytes ≤ length c.args.process.now = room_in (part_at p.parts k) c.requires.made.0 (process_bytes p k was) c.args.process.now (λ z. c.if-bytes-eq0.false (same ∙ z)) (length-process_bytes p k was) c.requires.made.2 in
    let fits : 10 + (get_or c.parts.result.now k no_part).bytes ≤ length c.args.process.now = omega (arith, same, room) in
    search rules

pub refresh-requires-clause-made : goal.refresh-requires-clause-made
refresh-requires-clause-made c =
    let p = c.args.plan.now in
    let k = c.args.part in
    let was = c.requires.made.1 in
    let same : (get_or c.parts.result.now k no_part).bytes ≡ (part_at p.parts k).bytes = ap (λ ps. (get_or ps k no_part).bytes) c.parts.ensures.value in (
      was,
      sent_in (part_at p.parts k) c.requires.made.0 (10 + (get_or c.parts.result.now k no_part).bytes - 10) (process_bytes p k was) c.args.process.now
          (λ z. c.if-bytes-eq0.false (same ∙ z)) (omega arith) (length-process_bytes p k was) c.requires.made.2,
    )

pub returns : goal.returns
returns c = λ n was e.
    let p = c.args.plan.now in
    let k = c.args.part in
    let same : (get_or c.parts.result.now k no_part).bytes ≡ (part_at p.parts k).bytes = ap (λ ps. (get_or ps k no_part).bytes) c.parts.ensures.value in
    refilled (part_at p.parts k) n (10 + (get_or c.parts.result.now k no_part).bytes - 10) (process_bytes p k was) c.refresh.new.sent c.args.process.now
    (λ z. c.if-bytes-eq0.false (same ∙ z)) (omega arith) (length-process_bytes p k was) (ap length c.refresh.ensures ∙ length-process_bytes p k c.args.image.now) e
    ∙ ap (process_spelled (part_at p.parts k) n) c.refresh.ensures
