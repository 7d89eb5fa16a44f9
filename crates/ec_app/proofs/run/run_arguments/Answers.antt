use Rattle.std.proofs.Common.{Bool, subst}
use Rattle.ec_args.specs.Requests.{command_of, first_of_inputs, second_of_inputs}
use Rattle.ec_console.specs.Given.{given_by}
use Rattle.ec_console.specs.Stating.{left_in}
use Rattle.ec_app.specs.Placing.{Places}
use Rattle.ec_app.specs.Running.{Announces, RunsAt}
use Rattle.ec_app.proofs.RunLemmas.{both_left, left_twice}
use Rattle.ec_app.proofs.run.run_arguments.Goals as goal

pub returns-clause-runs : goal.returns-clause-runs
returns-clause-runs g c =
    let ran = c.run_at-ended in (
      c.announce.new.faults,
      subst (λ (b : Bool). Announces b c.args.console.now.faults c.announce.new.faults) c.waits.ensures c.announce.ensures,
      subst (λ (p : Places). RunsAt p (command_of c.args.arguments.request) (given_by (left_in g.R.Read.remaining) c.args.console.now.input ran.new.console.input)
          (record { old = c.args.console.now.output; new = ran.new.console.output }) (record { old = c.announce.new.faults; new = ran.new.console.faults }) ran.result)
          c.of-place.ensures ran.ensures.runs,
    )

pub returns-clause-alone : goal.returns-clause-alone
returns-clause-alone g c =
    both_left (command_of c.args.arguments.request) (first_of_inputs c.args.arguments.inputs) (second_of_inputs c.args.arguments.inputs) _ _ _ _ _
    c.of-place.ensures c.run_at-ended.ensures.input c.run_at-ended.ensures.app

pub returns-clause-explains : goal.returns-clause-explains
returns-clause-explains g c = left_twice _ _ _ c.run_at-ended.ensures.explains c.explain_stream.ensures
