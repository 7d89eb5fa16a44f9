use Rattle.ec_console.proofs.BadLines.{bad_cut, bad_printed, bad_unsaid}
use Rattle.ec_console.proofs.running.print_bad.Goals as goal

pub returns-in_err-text-clause-part : goal.returns-in_err-text-clause-part
returns-in_err-text-clause-part g c = bad_unsaid c.from_residual.result (g.T.Target.manner c.args.target.now) c.args.number c.args.output.now

pub returns-clause-all : goal.returns-clause-all
returns-clause-all g c =
    bad_printed c.print_text.result (g.T.Target.manner c.args.target.now) c.args.number _ c.as_bytes.result.now c.args.output.now c.print_text.new.output c.in_ok-text.ensures c.as_bytes.ensures.value
    c.print_text.ensures.all

pub returns-clause-part : goal.returns-clause-part
returns-clause-part g c =
    bad_cut c.print_text.result (g.T.Target.manner c.args.target.now) c.args.number _ c.as_bytes.result.now c.args.output.now c.print_text.new.output c.in_ok-text.ensures c.as_bytes.ensures.value
    c.print_text.ensures.part
