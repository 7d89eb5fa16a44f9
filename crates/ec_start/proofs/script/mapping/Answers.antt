use Rattle.std.proofs.Common.{◌+◌, ◌∙◌, ap, drop, slice_get}
use Rattle.ec_start.specs.Ahead.{choices, somes}
use Rattle.ec_start.proofs.CursorActions.{choice_none, choice_past}
use Rattle.ec_start.proofs.script.mapping.Goals as goal
use Rattle.ec_start.proofs.script.mapping.Goals.{in-Some+else-left-eq0, in_default}

pub loop-number-preserved : goal.loop-number-preserved
loop-number-preserved c =
    let i = c.args.slave in
    let p = c.args.settings.now in
    let n = c.loop-number.number in
    let left = c.loop-number.left in
    elim c.match-mapping_chosen.branch [
      | in-Some+else-left-eq0 w ↦
          ap (λ k. slice_get (somes (drop (n + 1) (choices i p))) k) w.left-is
          ∙ (choice_past i p n left w.in-Some.action c.loop-number-test.true w.in-Some.ensures.value w.if-left-eq0.false ∙ c.loop-number.invariant)
      | in_default w ↦
          ap (λ k. slice_get (somes (drop (n + 1) (choices i p))) k) w.left-is
          ∙ (choice_none i p n left c.loop-number-test.true w.in_default.ensures.value ∙ c.loop-number.invariant)
    ]
