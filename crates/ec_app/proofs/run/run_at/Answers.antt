use Rattle.ec_args.specs.Requests.{command_of}
use Rattle.ec_app.proofs.RunLemmas.{app_left, input_left}
use Rattle.ec_app.proofs.run.run_at.Goals as goal

pub returns-in-Standard-clause-input : goal.returns-in-Standard-clause-input
returns-in-Standard-clause-input g c is = input_left (command_of c.args.request) _ _ _ _ c.run_request.ensures.alone

pub returns-in-Standard-clause-app : goal.returns-in-Standard-clause-app
returns-in-Standard-clause-app g c = app_left (command_of c.args.request) _ _ _ _ c.run_request.ensures.alone
