use Rattle.ec_console.proofs.StateLemmas.{script_refused, table_refused}
use Rattle.ec_console.proofs.stated.read_both.Goals as goal

pub returns-in_err-machine-clause-refused : goal.returns-in_err-machine-clause-refused
returns-in_err-machine-clause-refused c =
    table_refused _ c.args.form c.args.table.now c.args.script.now c.in_err-machine.field-0.0 c.from_residual.ensures.1 c.in_err-machine.ensures.refused

pub returns-in_err-lines-clause-refused : goal.returns-in_err-lines-clause-refused
returns-in_err-lines-clause-refused c =
    script_refused _ c.args.form c.args.table.now c.args.script.now c.in_ok-machine.machine c.table.result.now c.in_err-lines.field-0.0 c.from_residual-in_err-lines.ensures.1
    c.in_ok-machine.ensures.machine c.table.ensures.value c.in_err-lines.ensures
