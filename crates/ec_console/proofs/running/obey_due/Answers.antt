use Rattle.std.proofs.Common.{◌∙◌, ap}
use Rattle.ec_console.specs.Unmet.{unmet_of}
use Rattle.ec_console.proofs.BadLines.{says_bad, stops_bad}
use Rattle.ec_console.proofs.TakenLines.{part_lines_of, says_lines_of}
use Rattle.ec_console.proofs.running.obey_due.Goals as goal

pub returns-in-Lines-clause-all : goal.returns-in-Lines-clause-all
returns-in-Lines-clause-all g c =
    says_lines_of g.T.Target.says (g.T.Target.manner c.args.target.now) c.run_lines.result c.args.target.now c.run_lines.new.target c.args.due c.in-Lines.lines c.args.output.now c.run_lines.new.output c.in-Lines.is
    c.run_lines.ensures.all

pub returns-in-Lines-clause-part : goal.returns-in-Lines-clause-part
returns-in-Lines-clause-part g c =
    part_lines_of g.T.Target.says (g.T.Target.manner c.args.target.now) c.run_lines.result c.args.target.now c.run_lines.new.target c.args.due c.in-Lines.lines c.args.output.now c.run_lines.new.output c.in-Lines.is
    c.run_lines.ensures.part

pub returns-in_err-print_bad-in-Bad-clause-part : goal.returns-in_err-print_bad-in-Bad-clause-part
returns-in_err-print_bad-in-Bad-clause-part g c =
    stops_bad g.T.Target.says (g.T.Target.manner c.args.target.now) c.from_residual.result c.args.target.now c.in-Bad.number c.args.due c.args.output.now c.print_bad.new.output c.in-Bad.is
    c.in_err-print_bad-in-Bad.ensures.part

pub returns-in_ok-print_bad-in-Bad-clause-all : goal.returns-in_ok-print_bad-in-Bad-clause-all
returns-in_ok-print_bad-in-Bad-clause-all g c =
    says_bad g.T.Target.says (g.T.Target.manner c.args.target.now) c.args.target.now c.in-Bad.number c.args.due c.count_of.result c.args.output.now c.print_bad.new.output c.in-Bad.is
    (c.count_of.ensures ∙ ap (λ m. unmet_of m.strict) c.manner.ensures) c.in_ok-print_bad-in-Bad.ensures.all
