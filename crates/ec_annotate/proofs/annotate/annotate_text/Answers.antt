use Rattle.std.proofs.Common.{string_bytes}
use Rattle.std.specs.Str.Lines.{lines}
use Rattle.ec_annotate.proofs.Annotated.{annotated}
use Rattle.ec_annotate.proofs.annotate.annotate_text.Goals as goal

pub returns : goal.returns
returns c =
    annotated (lines c.args.text.now) (string_bytes c.in_ok-decoded.decoded.text) (string_bytes c.in_ok-text.text) c.in_ok-decoded.decoded.is_whole
    c.texts_have_no_indented_lines.ensures c.in_ok-decoded.ensures c.in_ok-text.ensures.woven c.in_ok-text.ensures.same
