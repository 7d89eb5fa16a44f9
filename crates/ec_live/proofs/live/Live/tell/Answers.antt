use Rattle.std.proofs.Common.{◌∙◌, ap, string_bytes}
use Rattle.ec_script.specs.Outputs.{is_counted}
use Rattle.ec_live.proofs.Doing.{told_in}
use Rattle.ec_live.proofs.live.Live.tell.Goals as goal

pub returns : goal.returns
returns c =
    let i = c.self.inside in
    told_in i.simulation i.drops i.answered i.refused c.args.self.now c.args.step.now c.args.said c.answer-answer.result (string_bytes c.in_ok-text.text) c.is_counted-is_unmet.result c.self.view_is c.answer-answer.ensures
    c.in_ok-text.ensures
    (c.is_counted-is_unmet.ensures ∙ (ap (λ m. is_counted m.strict c.outcome-outcome.result c.answer-answer.result) c.manner.ensures ∙ ap (λ o. is_counted i.simulation.manner.strict o c.answer-answer.result) c.outcome-outcome.ensures))
