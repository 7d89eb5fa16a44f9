use Rattle.ec_script.specs.Scripts.{repeated}
use Rattle.cmd_sim.proofs.SimLemmas.{all_over, part_over, run_seen}
use Rattle.cmd_sim.proofs.sim.print_lines.Goals as goal

pub returns-clause-all : goal.returns-clause-all
returns-clause-all g c = all_over g.S.Watcher.observed c.run_lines.result c.args.simulation.now c.run_lines.new.target (repeated c.args.lines.now) _ _ c.run_lines.ensures.all

pub returns-clause-part : goal.returns-clause-part
returns-clause-part g c = part_over g.S.Watcher.observed c.run_lines.result c.args.simulation.now c.run_lines.new.target (repeated c.args.lines.now) _ _ c.run_lines.ensures.part

pub returns-clause-observed : goal.returns-clause-observed
returns-clause-observed g c = run_seen g.S.Watcher.observed c.run_lines.result c.args.simulation.now c.run_lines.new.target (repeated c.args.lines.now) _ _ c.run_lines.ensures.all c.run_lines.ensures.part
