use Rattle.std.proofs.Common.{inl, inr, refl}
use Rattle.ec_args.specs.Requests.{command_of}
use Rattle.ec_console.proofs.StateLemmas.{never_run}
use Rattle.ec_app.proofs.RunLemmas.{app_kept, app_left, left_twice}
use Rattle.ec_app.proofs.run.run_tabled.Goals as goal

pub returns-in_err-table-clause-runs : goal.returns-in_err-table-clause-runs
returns-in_err-table-clause-runs g c = inl (never_run _ c.in_err-table.field-0.0 _ _ c.from_residual.ensures.1 c.in_err-table.ensures.refused (refl, refl))

pub returns-in_err-table-clause-app : goal.returns-in_err-table-clause-app
returns-in_err-table-clause-app g c = app_kept (command_of c.args.request) _

pub returns-clause-runs : goal.returns-clause-runs
returns-clause-runs g c = inr (c.as_str.result.now, c.run_request.ensures.runs)

pub returns-clause-app : goal.returns-clause-app
returns-clause-app g c = app_left (command_of c.args.request) _ _ _ _ c.run_request.ensures.alone

pub returns-clause-explains : goal.returns-clause-explains
returns-clause-explains g c = left_twice _ _ _ c.read_file.ensures.explains c.run_request.ensures.explains
