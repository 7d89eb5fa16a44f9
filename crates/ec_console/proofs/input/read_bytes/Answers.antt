use Rattle.std.proofs.Common.{◌∙◌, ap}
use denote.Enum.Bare.{sameb}
use Rattle.std.specs.contracts.io.ErrorKind.{the_type}
use Rattle.std.specs.declared.io.ErrorKind.TheVariants.{OutOfMemory}
use Rattle.std.specs.IoError.{error_kind}
use Rattle.ec_console.proofs.InputLemmas.{refused_read}
use Rattle.ec_console.proofs.input.read_bytes.Goals as goal

pub returns-else-eq-clause-refused : goal.returns-else-eq-clause-refused
returns-else-eq-clause-refused g c = refused_read c.args.input.now.is_refused c.read_first.new.self.is_refused (error_kind c.in-Err.error) c.in-Err.ensures.refused c.in-Err.ensures.retried
    (c.if-eq.ensures ∙ ap (λ kind. sameb the_type kind OutOfMemory) c.kind.ensures)
