use Rattle.std.proofs.Common.{◌+◌, ◌≤◌, ◌∙◌, List, slice_get, drop, All, sym, ap, subst, arith}
use Rattle.ec_link.specs.declared.plan.PartPlan.{PartPlan}
use Rattle.ec_start.specs.declared.action.Feed.{Feed}
use Rattle.ec_start.specs.Scripts.{is_hardware}
use Rattle.ec_start.specs.Feeding.{feeds_from}
use Rattle.ec_start.proofs.Feedings.{plain_feeds, found_in, none_here, fed_here, few_here, part_past, parts_end}
use Rattle.ec_start.proofs.feeding.feed_at.Goals as goal
use Rattle.ec_start.proofs.feeding.feed_at.Goals.{then-settings-gt0+else-left-eq0, else-settings-gt0}

pub returns-then-not-has_hardware-clause-value : goal.returns-then-not-has_hardware-clause-value
returns-then-not-has_hardware-clause-value c =
    let p = c.args.plan.now in
    sym (ap (λ (fs : List Feed). slice_get fs c.args.number) (plain_feeds p (sym (c.has_hardware.ensures ∙ ap is_hardware c.slaves.ensures.value) ∙ c.if-not-has_hardware.true)))

pub returns-then-left-eq0-clause-value : goal.returns-then-left-eq0-clause-value
returns-then-left-eq0-clause-value c =
    let p = c.args.plan.now in
    let ps = c.parts-parts.result.now in
    let n = c.loop-part.part in
    let t = sym (c.has_hardware.ensures ∙ ap is_hardware c.slaves.ensures.value) ∙ c.if-not-has_hardware.false in
    fed_here p ps n c.loop-part.left _ c.feed_over.result c.predicted.result c.loop-part-test.true c.if-settings-gt0.true c.if-left-eq0.true c.feed_over.ensures c.predicted.ensures.value
    ∙ (c.loop-part.invariant ∙ found_in p ps c.args.number t c.parts-parts.ensures.value)

pub returns-then-left-eq0-clause-few : goal.returns-then-left-eq0-clause-few
returns-then-left-eq0-clause-few c =
    let all = subst (λ (xs : List PartPlan). All (λ (k : PartPlan). k.bytes ≤ 1422) xs) (sym c.parts-parts.ensures.value) c.parts-parts.ensures.small in
    few_here c.parts-parts.result.now c.loop-part.part _ c.feed_over.result c.predicted.result c.loop-part-test.true c.if-settings-gt0.true c.feed_over.ensures all

pub loop-part-preserved : goal.loop-part-preserved
loop-part-preserved c =
    let p = c.args.plan.now in
    let ps = c.parts-parts.result.now in
    let n = c.loop-part.part in
    let left = c.loop-part.left in
    elim c.if-settings-gt0.branch [
      | then-settings-gt0+else-left-eq0 w ↦
          ap (λ k. slice_get (feeds_from p (n + 1) (drop (n + 1) ps)) k) w.left-is
          ∙ (part_past p ps n left _ c.loop-part-test.true w.if-settings-gt0.true w.if-left-eq0.false ∙ c.loop-part.invariant)
      | else-settings-gt0 w ↦
          ap (λ k. slice_get (feeds_from p (n + 1) (drop (n + 1) ps)) k) w.left-is
          ∙ (none_here p ps n left _ c.loop-part-test.true w.if-settings-gt0.false ∙ c.loop-part.invariant)
    ]

pub returns-clause-value : goal.returns-clause-value
returns-clause-value c =
    let p = c.args.plan.now in
    let ps = c.parts-parts.result.now in
    let t = sym (c.has_hardware.ensures ∙ ap is_hardware c.slaves.ensures.value) ∙ c.if-not-has_hardware.false in
    parts_end p ps c.loop-part.part c.loop-part.left (omega (arith, c.loop-part-test.false)) ∙ (c.loop-part.invariant ∙ found_in p ps c.args.number t c.parts-parts.ensures.value)
