use Rattle.std.proofs.Common.{◌∙◌, ap, Some}
use Rattle.ec_start.proofs.CursorActions.{talked_none, talked_sent, talked_awaited}
use Rattle.ec_start.proofs.script.talking.Goals as goal

pub returns-in_err-request-clause-value : goal.returns-in_err-request-clause-value
returns-in_err-request-clause-value c =
    c.from_residual-in_err-request.ensures ∙ talked_none c.args.slave c.args.settings.now c.args.settings.now.kind.mailbox c.in_ok-mailbox.mailbox c.args.place c.in_ok-mailbox.ensures.value c.in_err-request.ensures

pub returns-then-place-eq0-clause-value : goal.returns-then-place-eq0-clause-value
returns-then-place-eq0-clause-value c =
    talked_sent c.args.slave c.args.settings.now c.args.settings.now.kind.mailbox c.in_ok-mailbox.mailbox c.args.place c.in_ok-request.request c.in_ok-mailbox.ensures.value c.in_ok-request.ensures c.if-place-eq0.true

pub returns-else-place-eq0-clause-value : goal.returns-else-place-eq0-clause-value
returns-else-place-eq0-clause-value c =
    ap Some c.reply_awaited.ensures.value
    ∙ talked_awaited c.args.slave c.args.settings.now c.args.settings.now.kind.mailbox c.in_ok-mailbox.mailbox c.args.place c.in_ok-request.request c.in_ok-mailbox.ensures.value c.in_ok-request.ensures c.if-place-eq0.false
