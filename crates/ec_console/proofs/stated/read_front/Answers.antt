use Rattle.ec_lines.specs.Inputs.{bytes_left}
use Rattle.ec_console.specs.Given.{given_by}
use Rattle.ec_console.proofs.StateLemmas.{front_refused}
use Rattle.ec_console.proofs.stated.read_front.Goals as goal

pub returns-in_err-text-clause-refused : goal.returns-in_err-text-clause-refused
returns-in_err-text-clause-refused g c =
    front_refused c.from_residual.result (given_by g.R.Read.remaining c.args.input.now c.take_text.new.input) (bytes_left g.R.Read.remaining c.take_text.new.input) c.in_err-text.field-0.0 c.from_residual.ensures.1
    c.in_err-text.ensures.refused
