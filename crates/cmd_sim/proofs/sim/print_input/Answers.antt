use Rattle.ec_lines.specs.Inputs.{bytes_left}
use Rattle.cmd_sim.proofs.SimLemmas.{come_over, out_over}
use Rattle.cmd_sim.proofs.sim.print_input.Goals as goal

pub returns-clause-all : goal.returns-clause-all
returns-clause-all g c = out_over g.S.Watcher.observed c.run_input.result c.args.simulation.now c.run_input.new.target (bytes_left g.R.Read.remaining c.args.input.now) _ _ c.run_input.ensures.all

pub returns-clause-part : goal.returns-clause-part
returns-clause-part g c = come_over g.S.Watcher.observed c.run_input.result c.args.simulation.now c.run_input.new.target (bytes_left g.R.Read.remaining c.args.input.now) _ _ c.run_input.ensures.part
