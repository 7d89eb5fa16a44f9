use Rattle.std.proofs.Common.{inl, inr, refl, subst}
use Rattle.std.specs.Prelude.{option_map}
use Rattle.ec_args.specs.Requests.{command_of}
use Rattle.ec_console.specs.Given.{given_by}
use Rattle.ec_console.specs.Stating.{left_in}
use Rattle.ec_console.proofs.StateLemmas.{never_run}
use Rattle.ec_app.specs.Running.{Runs}
use Rattle.ec_app.proofs.RunLemmas.{app_kept, app_left, left_twice}
use Rattle.ec_app.proofs.run.run_opened.Goals as goal

pub returns-in_err-file-clause-runs : goal.returns-in_err-file-clause-runs
returns-in_err-file-clause-runs g c = inl (never_run _ c.in_err-file.field-0.0 _ _ c.from_residual.ensures.1 (inl c.in_err-file.ensures.refused) (refl, refl))

pub returns-in_err-file-clause-app : goal.returns-in_err-file-clause-app
returns-in_err-file-clause-app g c = app_kept (command_of c.args.request) _

pub returns-clause-runs : goal.returns-clause-runs
returns-clause-runs g c =
    let old = c.args.console.now in
    let after = c.run_request.new.console in
    inr (subst (λ input. Runs (option_map (λ x. x.now) c.args.inputs.table) (command_of c.args.request) (given_by (left_in g.R.Read.remaining) input after.input) (record { old = old.output; new = after.output })
    (record { old = old.faults; new = after.faults }) c.run_request.result) c.new.ensures c.run_request.ensures.runs)

pub returns-clause-app : goal.returns-clause-app
returns-clause-app g c = app_left (command_of c.args.request) _ _ _ _ c.run_request.ensures.alone

pub returns-clause-explains : goal.returns-clause-explains
returns-clause-explains g c = left_twice _ _ _ c.open_file.ensures.explains c.run_request.ensures.explains
