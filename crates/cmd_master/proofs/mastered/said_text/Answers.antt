use Rattle.std.proofs.Common.{◌∙◌, sym}
use Rattle.cmd_master.proofs.Reasoned.{line_alone, line_reasoned}
use Rattle.cmd_master.proofs.mastered.said_text.Goals as goal

pub returns-then-is_reasoned : goal.returns-then-is_reasoned
returns-then-is_reasoned c = line_reasoned c.reasoned_text.result c.args.manner c.args.why.now.session.now c.args.states.now c.args.number c.args.why.now.output (sym c.is_reasoned.ensures ∙ c.if-is_reasoned.true) c.reasoned_text.ensures

pub returns-else-is_reasoned : goal.returns-else-is_reasoned
returns-else-is_reasoned c = line_alone c.plain_text.result c.args.manner c.args.why.now.session.now c.args.states.now c.args.number c.args.why.now.output (sym c.is_reasoned.ensures ∙ c.if-is_reasoned.false) c.plain_text.ensures
