use Rattle.ec_console.proofs.StateLemmas.{shown_refused, states_in}
use Rattle.ec_console.proofs.machine.read_machine.Goals as goal

pub returns-clause-machine : goal.returns-clause-machine
returns-clause-machine c =
    states_in c.machine_of.result c.args.form c.args.text.now c.in_ok-table.table _ c.in_ok-table.ensures c.advertise_in.ensures c.machine_of.ensures.machine c.machine_of.ensures.accepted

pub returns-clause-refused : goal.returns-clause-refused
returns-clause-refused c =
    shown_refused c.machine_of.result c.args.form c.args.text.now c.in_ok-table.table _ c.in_ok-table.ensures c.advertise_in.ensures c.machine_of.ensures.refused
