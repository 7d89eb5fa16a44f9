use Rattle.ec_lines.specs.Inputs.{bytes_left}
use Rattle.ec_lines.specs.Taking.{RefusesText}
use Rattle.ec_lines.proofs.TextLemmas.{err_of, lines_refused, text_is_refused, text_is_short, text_is_taken}
use Rattle.ec_lines.proofs.text.take_text.Goals as goal

pub returns-in_err-bytes-clause-refused : goal.returns-in_err-bytes-clause-refused
returns-in_err-bytes-clause-refused g c =
    err_of c.from_residual.result c.in_err-bytes.field-0.0 (RefusesText c.take_lines.new.input.is_refused (bytes_left g.R.Read.remaining c.args.input.now) (bytes_left g.R.Read.remaining c.take_lines.new.input)) c.from_residual.ensures.1
    (lines_refused c.take_lines.new.input.is_refused (bytes_left g.R.Read.remaining c.args.input.now) (bytes_left g.R.Read.remaining c.take_lines.new.input) c.in_err-bytes.field-0.0 c.in_err-bytes.ensures.refused)

pub returns-clause-taken : goal.returns-clause-taken
returns-clause-taken g c =
    text_is_taken c.text_of.result (bytes_left g.R.Read.remaining c.args.input.now) (bytes_left g.R.Read.remaining c.take_lines.new.input) c.in_ok-bytes.bytes.items c.in_ok-bytes.ensures.taken c.text_of.ensures.same

pub returns-clause-short : goal.returns-clause-short
returns-clause-short g c = text_is_short c.text_of.result c.in_ok-bytes.bytes.items c.in_ok-bytes.ensures.short c.text_of.ensures.same

pub returns-clause-refused : goal.returns-clause-refused
returns-clause-refused g c =
    text_is_refused c.text_of.result c.take_lines.new.input.is_refused (bytes_left g.R.Read.remaining c.args.input.now) (bytes_left g.R.Read.remaining c.take_lines.new.input) c.in_ok-bytes.bytes.items c.in_ok-bytes.ensures.taken c.text_of.ensures.refused
