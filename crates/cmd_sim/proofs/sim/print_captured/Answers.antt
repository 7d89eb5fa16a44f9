use Rattle.std.proofs.Common.{refl}
use Rattle.ec_script.specs.Scripts.{repeated}
use Rattle.cmd_sim.proofs.SimLemmas.{all_last, part_last}
use Rattle.cmd_sim.proofs.sim.print_captured.Goals as goal

pub returns-in-None-clause-all : goal.returns-in-None-clause-all
returns-in-None-clause-all g c =
    all_last c.args.simulation.watcher c.print_lines.result c.args.simulation c.args.simulation.manner c.args.simulation.table c.args.simulation.world c.print_lines.new.simulation.world (repeated c.args.lines.now) _ _ refl
    c.print_lines.ensures.all

pub returns-in-None-clause-part : goal.returns-in-None-clause-part
returns-in-None-clause-part g c =
    part_last c.args.simulation.watcher c.print_lines.result c.args.simulation c.args.simulation.manner c.args.simulation.table c.args.simulation.world c.print_lines.new.simulation.world (repeated c.args.lines.now) _ _ refl
    c.print_lines.ensures.part

pub returns-in-Some-clause-all : goal.returns-in-Some-clause-all
returns-in-Some-clause-all g c =
    all_last _ c.print_noted-ended.result c.watched_by-noted.result c.args.simulation.manner c.args.simulation.table c.args.simulation.world c.print_noted-ended.new.simulation.world (repeated c.args.lines.now) _ _
    c.watched_by-noted.ensures c.print_noted-ended.ensures.all

pub returns-in-Some-clause-part : goal.returns-in-Some-clause-part
returns-in-Some-clause-part g c =
    part_last _ c.print_noted-ended.result c.watched_by-noted.result c.args.simulation.manner c.args.simulation.table c.args.simulation.world c.print_noted-ended.new.simulation.world (repeated c.args.lines.now) _ _
    c.watched_by-noted.ensures c.print_noted-ended.ensures.part
