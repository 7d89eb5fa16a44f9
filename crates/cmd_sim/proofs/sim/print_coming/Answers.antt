use Rattle.std.proofs.Common.{refl}
use Rattle.ec_lines.specs.Inputs.{bytes_left}
use Rattle.cmd_sim.proofs.SimLemmas.{come_last, out_last}
use Rattle.cmd_sim.proofs.sim.print_coming.Goals as goal

pub returns-in-None-clause-all : goal.returns-in-None-clause-all
returns-in-None-clause-all g c =
    out_last c.args.simulation.watcher c.print_input.result c.args.simulation c.args.simulation.manner c.args.simulation.table c.args.simulation.world c.print_input.new.simulation.world
    (bytes_left g.R.Read.remaining c.args.input.now) _ _ refl c.print_input.ensures.all

pub returns-in-None-clause-part : goal.returns-in-None-clause-part
returns-in-None-clause-part g c =
    come_last c.args.simulation.watcher c.print_input.result c.args.simulation c.args.simulation.manner c.args.simulation.table c.args.simulation.world c.print_input.new.simulation.world
    (bytes_left g.R.Read.remaining c.args.input.now) _ _ refl c.print_input.ensures.part

pub returns-in-Some-clause-all : goal.returns-in-Some-clause-all
returns-in-Some-clause-all g c =
    out_last _ c.print_input-ended.result c.watched_by-watched.result c.args.simulation.manner c.args.simulation.table c.args.simulation.world c.print_input-ended.new.simulation.world
    (bytes_left g.R.Read.remaining c.args.input.now) _ _ c.watched_by-watched.ensures c.print_input-ended.ensures.all

pub returns-in-Some-clause-part : goal.returns-in-Some-clause-part
returns-in-Some-clause-part g c =
    come_last _ c.print_input-ended.result c.watched_by-watched.result c.args.simulation.manner c.args.simulation.table c.args.simulation.world c.print_input-ended.new.simulation.world
    (bytes_left g.R.Read.remaining c.args.input.now) _ _ c.watched_by-watched.ensures c.print_input-ended.ensures.part
