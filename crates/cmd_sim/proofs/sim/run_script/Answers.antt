use Rattle.std.proofs.Common.{false}
use Rattle.ec_console.proofs.EndLemmas.{run_refused}
use Rattle.cmd_sim.specs.Simulating.{RunsAll, RunsPart}
use Rattle.cmd_sim.proofs.SimLemmas.{script_cut, script_ran}
use Rattle.cmd_sim.proofs.sim.run_script.Goals as goal

pub returns-in_err-world-clause-runs : goal.returns-in_err-world-clause-runs
returns-in_err-world-clause-runs g c =
    run_refused _ (RunsAll c.args.manner c.args.machine.now c.args.lines.now c.args.output.now c.args.output.now) (RunsPart c.args.manner c.args.machine.now c.args.lines.now c.args.output.now c.args.output.now) false c.args.output.now
    c.from_residual.ensures.1

pub returns-in_err-unmet-clause-runs : goal.returns-in_err-unmet-clause-runs
returns-in_err-unmet-clause-runs g c =
    script_cut _ _ c.print_captured.result _ _ _ c.args.manner c.args.machine.now c.in_ok-world.world c.new-simulation.result c.args.lines.now c.new-simulation.ensures c.in_ok-world.ensures c.in_err-unmet.was c.print_captured.ensures.part
    c.print_captured.ensures.late c.from_residual-in_err-unmet.ensures.1

pub returns-clause-runs : goal.returns-clause-runs
returns-clause-runs g c =
    script_ran _ c.end_of.result _ _ c.args.manner c.args.machine.now c.in_ok-world.world c.new-simulation.result c.args.lines.now c.in_ok-unmet.unmet c.new-simulation.ensures c.in_ok-world.ensures c.end_of.ensures
    c.in_ok-unmet.ensures.all
