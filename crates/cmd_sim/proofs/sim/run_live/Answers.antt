use Rattle.ec_console.specs.Given.{given_by}
use Rattle.ec_console.proofs.EndLemmas.{run_refused}
use Rattle.cmd_sim.specs.Simulating.{LivesAll, LivesPart}
use Rattle.cmd_sim.proofs.SimLemmas.{live_cut, live_ran}
use Rattle.cmd_sim.proofs.sim.run_live.Goals as goal

pub returns-in_err-world-clause-runs : goal.returns-in_err-world-clause-runs
returns-in_err-world-clause-runs g c =
    let given = given_by g.R.Read.remaining c.args.input.now c.args.input.now in
    run_refused _ (LivesAll c.args.manner c.args.machine.now given.bytes c.args.output.now c.args.output.now) (LivesPart c.args.manner c.args.machine.now given.bytes c.args.output.now c.args.output.now) given.is_refused
    c.args.output.now c.from_residual.ensures.1

pub returns-in_err-unmet-clause-runs : goal.returns-in_err-unmet-clause-runs
returns-in_err-unmet-clause-runs g c =
    live_cut _ _ c.print_coming.result _ (given_by g.R.Read.remaining c.args.input.now c.print_coming.new.input) _ _ c.args.manner c.args.machine.now c.in_ok-world.world c.new-simulation.result c.new-simulation.ensures c.in_ok-world.ensures
    c.in_err-unmet.was c.print_coming.ensures.part c.print_coming.ensures.late c.from_residual-in_err-unmet.ensures.1

pub returns-clause-runs : goal.returns-clause-runs
returns-clause-runs g c =
    live_ran _ c.end_of.result (given_by g.R.Read.remaining c.args.input.now c.print_coming.new.input) _ _ c.args.manner c.args.machine.now c.in_ok-world.world c.new-simulation.result c.in_ok-unmet.unmet c.new-simulation.ensures
    c.in_ok-world.ensures c.end_of.ensures c.in_ok-unmet.ensures.all
