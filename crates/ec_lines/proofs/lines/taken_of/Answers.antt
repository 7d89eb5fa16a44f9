use Rattle.std.proofs.Common.{◌∙◌}
use Rattle.ec_lines.proofs.TextLemmas.{no_text_line, some_bytes, text_line}
use Rattle.ec_lines.proofs.lines.taken_of.Goals as goal

pub returns-in_ok-from_str-in-Ok : goal.returns-in_ok-from_str-in-Ok
returns-in_ok-from_str-in-Ok c =
    (some_bytes c.args.line.now c.is_empty.result c.is_empty.ensures c.if-is_empty.false, text_line c.args.line.now c.without_end-line.result.now c.without_end-line.ensures c.if-line-gt-MAX_BYTES.false c.in-Ok.ensures.cases.1, c.in_ok-from_str-in-Ok.ensures.ok ∙ (c.in-Ok.ensures.cases.0 ∙ c.without_end-line.ensures))

pub returns-in-Err : goal.returns-in-Err
returns-in-Err c = (some_bytes c.args.line.now c.is_empty.result c.is_empty.ensures c.if-is_empty.false, no_text_line c.args.line.now c.without_end-line.result.now c.without_end-line.ensures c.in-Err.ensures.cases.0)
