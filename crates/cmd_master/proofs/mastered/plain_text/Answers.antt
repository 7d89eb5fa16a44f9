use Rattle.cmd_master.proofs.Reasoned.{text_of}
use Rattle.cmd_master.proofs.mastered.plain_text.Goals as goal

pub returns : goal.returns
returns c =
    text_of c.output_text.result c.args.session.now c.args.states.now c.table-table.result.now c.args.number c.view_of.result c.args.output c.table-table.ensures c.view_of.ensures c.output_text.ensures
