use Rattle.ec_console.specs.Given.{given_by}
use Rattle.ec_console.proofs.InputLemmas.{text_given, text_refused}
use Rattle.ec_console.proofs.input.read_text.Goals as goal

pub returns-clause-whole : goal.returns-clause-whole
returns-clause-whole g c =
    text_given c.text_of.result (given_by g.R.Read.remaining c.args.input.now c.read_bytes.new.input) c.in_ok-bytes.bytes.items c.in_ok-bytes.ensures.known c.text_of.ensures.same c.text_of.ensures.short

pub returns-clause-refused : goal.returns-clause-refused
returns-clause-refused g c =
    text_refused c.text_of.result (given_by g.R.Read.remaining c.args.input.now c.read_bytes.new.input) c.in_ok-bytes.bytes.items c.in_ok-bytes.ensures.known c.text_of.ensures.refused
