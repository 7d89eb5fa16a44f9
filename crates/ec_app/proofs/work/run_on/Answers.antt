use Rattle.std.proofs.Common.{refl, sym, subst}
use Rattle.ec_console.specs.Given.{given_by}
use Rattle.ec_app.specs.Running.{does_of}
use Rattle.ec_app.specs.declared.work.Work.{Work}
use Rattle.ec_app.proofs.work.run_on.Goals as goal

pub returns-in-Cycles-clause-runs : goal.returns-in-Cycles-clause-runs
returns-in-Cycles-clause-runs g c = subst
    (λ (w : Work). does_of w (record { old = c.args.console.now.output; new = c.run_cycles.new.output }) (record { old = c.args.console.now.faults; new = c.args.console.now.faults })
    (given_by g.R.Read.remaining c.args.console.now.input c.args.console.now.input) c.args.stated.machine c.args.stated.lines c.run_cycles.result) (sym c.in-Cycles.is) (c.run_cycles.ensures.loops, refl)
