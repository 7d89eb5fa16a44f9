use Rattle.std.proofs.Common.{Some, inl, inr, sym, subst}
use Rattle.std.specs.Prelude.{is_some, option_map}
use Rattle.ec_args.specs.Requests.{command_of}
use Rattle.ec_lines.specs.Inputs.{bytes_left}
use Rattle.ec_console.specs.Given.{given_by}
use Rattle.ec_console.specs.Printing.{OutputState}
use Rattle.ec_console.specs.Stating.{left_in}
use Rattle.ec_console.proofs.StateLemmas.{never_run}
use Rattle.ec_app.specs.Running.{GivesTable, RunsOpened}
use Rattle.ec_app.proofs.RunLemmas.{app_kept, gives_by, left_twice}
use Rattle.ec_app.proofs.run.run_both.Goals as goal

pub returns-in_err-text-clause-runs : goal.returns-in_err-text-clause-runs
returns-in_err-text-clause-runs g c =
    inl (never_run _ c.in_err-text.field-0.0 _ _ c.from_residual.ensures.1 c.in_err-text.ensures.refused (c.read_table.ensures.output, c.read_table.ensures.faults))

pub returns-in_err-text-clause-app : goal.returns-in_err-text-clause-app
returns-in_err-text-clause-app g c = app_kept (command_of c.args.request) _

pub returns-clause-runs : goal.returns-clause-runs
returns-clause-runs g c =
    let old = c.args.console.now in
    let after = c.run_opened.new.console in
    let in_file = is_some (option_map (λ x. x.now) c.args.files.0) in
    let table = c.as_str.result.now in
    inr (
      table,
      subst (GivesTable in_file (given_by (left_in g.R.Read.remaining) old.input after.input)) (sym c.as_str.ensures.value)
          (gives_by in_file (bytes_left (left_in g.R.Read.remaining) old.input) _ after.input.is_refused _ c.in_ok-text.ensures.gives),
      subst (λ (o : OutputState). RunsOpened (Some table) (command_of c.args.request) after.input.is_refused (record { old = o; new = after.output }) (record { old = old.faults; new = after.faults }) c.run_opened.result) c.read_table.ensures.output
          (subst (λ (o : OutputState). RunsOpened (Some table) (command_of c.args.request) after.input.is_refused (record { old = c.read_table.new.console.output; new = after.output }) (record { old = o; new = after.faults }) c.run_opened.result)
          c.read_table.ensures.faults c.run_opened.ensures.runs),
    )

pub returns-clause-app : goal.returns-clause-app
returns-clause-app g c = c.run_opened.ensures.app

pub returns-clause-explains : goal.returns-clause-explains
returns-clause-explains g c = left_twice _ _ _ c.read_table.ensures.explains c.run_opened.ensures.explains
