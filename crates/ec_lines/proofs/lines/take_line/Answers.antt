use Rattle.std.proofs.Common.{List, ℕ, subst}
use Rattle.ec_lines.specs.Inputs.{bytes_left}
use Rattle.ec_lines.specs.Taking.{IsTaken}
use Rattle.ec_lines.proofs.TextLemmas.{taken_line}
use Rattle.ec_lines.proofs.lines.take_line.Goals as goal

pub returns-clause-taken : goal.returns-clause-taken
returns-clause-taken g c =
    taken_line (bytes_left g.R.Read.remaining c.args.input.now) (bytes_left g.R.Read.remaining c.take_bytes.new.input) c.in_ok-line.line.items c.in_ok-taken_of.field-0 c.in_ok-line.ensures.taken (subst (λ (l : List ℕ). IsTaken l c.in_ok-taken_of.field-0) c.deref.ensures.value c.in_ok-taken_of.ensures)
