use Rattle.std.proofs.Common.{inl, refl, rules, sym, subst, arith}
use Rattle.ec_console.specs.Given.{given_by}
use Rattle.ec_console.specs.Stating.{left_in}
use Rattle.ec_app.specs.Running.{Ends, EndsAlone}
use Rattle.ec_app.proofs.RunLemmas.{tells_known, tells_with_known}
use Rattle.ec_app.proofs.WrongLemmas.{none_right}
use Rattle.ec_app.proofs.run.end_run.Goals as goal

pub returns-in-Some-clause-status : goal.returns-in-Some-clause-status
returns-in-Some-clause-status g c = (1, omega arith, refl)

pub returns-in_default-clause-ends : goal.returns-in_default-clause-ends
returns-in_default-clause-ends g c =
    let ran = c.run_arguments-ended in
    subst (λ read. Ends read c.args.console.now.terminals (given_by (left_in g.R.Read.remaining) c.args.console.now.input ran.new.console.input) (record { old = c.args.console.now.output; new = ran.new.console.output })
    (record { old = c.args.console.now.faults; new = c.explained_status.new.faults }) c.explained_status.result) (sym c.in-Ok.is)
    (inl (
      none_right c.wrong_of.result _ c.in_default.not-Some c.wrong_of.ensures.right,
      (ran.result, ran.new.console.faults, c.as_bytes-in-Ok.result.now, ran.ensures.runs, search rules, c.explained_status.ensures),
    ))

pub returns-in_default-clause-alone : goal.returns-in_default-clause-alone
returns-in_default-clause-alone g c = subst
    (λ read. EndsAlone read c.args.console.now.input c.run_arguments-ended.new.console.input c.args.app.now (c.args.app.now.0, c.run_arguments-ended.new.app)) (sym c.in-Ok.is) c.run_arguments-ended.ensures.alone

pub returns-in_default-clause-status : goal.returns-in_default-clause-status
returns-in_default-clause-status g c = tells_with_known _ _ _ _ c.explained_status.ensures

pub returns-in-Err-Help-clause-status : goal.returns-in-Err-Help-clause-status
returns-in-Err-Help-clause-status g c = tells_known _ _ _ c.exit_status-in-Err-Help.ensures
