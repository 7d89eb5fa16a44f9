use Rattle.std.proofs.Common.{◌∙◌, ap}
use Rattle.ec_script.specs.Outputs.{is_counted}
use Rattle.ec_console.proofs.PrintLemmas.{if_err}
use Rattle.cmd_master.proofs.Doing.{table_stays}
use Rattle.cmd_master.proofs.Reasoned.{one_line, some_line}
use Rattle.cmd_master.proofs.mastered.MasteredTarget.obey.Goals as goal

pub returns-in_err-text-clause-unsaid : goal.returns-in_err-text-clause-unsaid
returns-in_err-text-clause-unsaid g c = if_err _ (some_line c.args.self.now c.args.step.now c.act-output.new.self c.act-output.result c.act-output.ensures)

pub returns-in_err-text-clause-table : goal.returns-in_err-text-clause-table
returns-in_err-text-clause-table g c = table_stays c.args.step.now.action c.args.self.now c.act-output.new.self c.act-output.result c.act-output.ensures

pub returns-clause-said : goal.returns-clause-said
returns-clause-said g c =
    one_line c.args.self.now c.args.step.now c.act-output.new.self _ _ c.act-output.result c.answer-answer.result _ c.is_counted.result c.act-output.ensures c.self.view_is c.deref.ensures.value c.answer-answer.ensures
    c.in_ok-text.ensures (c.is_counted.ensures ∙ ap (λ o. is_counted c.self.inside.manner.strict o c.answer-answer.result) c.outcome.ensures)

pub returns-clause-table : goal.returns-clause-table
returns-clause-table g c = table_stays c.args.step.now.action c.args.self.now c.act-output.new.self c.act-output.result c.act-output.ensures
