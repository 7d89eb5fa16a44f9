use Rattle.std.proofs.Common.{string_bytes, subst}
use Rattle.ec_decode.specs.Steps.{AddsLine}
use Rattle.ec_decode.proofs.LinesAdded.{all_added, no_more}
use Rattle.ec_decode.proofs.text.add_lines.Goals as goal

pub returns-then-not-branch : goal.returns-then-not-branch
returns-then-not-branch c =
    no_more (λ x. x.now) c.args.lines.now c.loop-line.line-index _ (string_bytes c.args.text.now) (string_bytes c.loop-line.text) (string_bytes c.add_line.new.text) c.loop-line.invariant c.loop-line-test.true
    (subst (AddsLine _ (string_bytes c.loop-line.text) (string_bytes c.add_line.new.text)) c.if-not-branch.true c.in_ok-add_line.ensures)

pub returns : goal.returns
returns c = all_added (λ x. x.now) c.args.lines.now c.loop-line.line-index (string_bytes c.args.text.now) (string_bytes c.loop-line.text) c.loop-line.invariant c.loop-line-test.false
