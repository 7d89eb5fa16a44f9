use Rattle.std.proofs.Common.{◌∙◌, sym, arith, length}
use Rattle.ec_start.proofs.CursorActions.{ahead_behind, is_behind}
use Rattle.ec_start.proofs.script.Cursor.settle.Goals as goal

pub loop-action-preserved : goal.loop-action-preserved
loop-action-preserved c =
    let none = sym c.action-found.ensures.value ∙ c.in_default.is in
    let next = sym c.behind.ensures ∙ c.in_ok-cursor.was in
    let b = is_behind (length c.args.slaves.now) c.loop-action.cursor c.in_ok-cursor.cursor c.requires.few c.loop-action.invariant.low next in
    let place = b.place in
    record { same = c.loop-action.invariant.same ∙ ahead_behind c.args.slaves.now c.loop-action.cursor c.in_ok-cursor.cursor none next; low = b.low; place = omega (arith, place) }
