use Rattle.ec_console.proofs.StateLemmas.{refuses_both, states_both}
use Rattle.ec_console.proofs.stated.read_stated.Goals as goal

pub returns-in-Script-clause-states : goal.returns-in-Script-clause-states
returns-in-Script-clause-states c =
    states_both c.read_both.result c.args.source c.args.form c.args.text.now c.split_script.result.0.now c.split_script.result.1.now c.in-Script.is c.split_script.ensures c.read_both.ensures.states

pub returns-in-Script-clause-refused : goal.returns-in-Script-clause-refused
returns-in-Script-clause-refused c =
    refuses_both c.read_both.result c.args.source c.args.form c.args.text.now c.split_script.result.0.now c.split_script.result.1.now c.in-Script.is c.split_script.ensures c.read_both.ensures.refused
