use Rattle.std.proofs.Common.{◌∙◌, ap, string_bytes, subst}
use Rattle.ec_script.specs.declared.output.LineOutput.{LineOutput}
use Rattle.ec_script.specs.Outputs.{answer_of, is_counted}
use Rattle.cmd_sim.specs.Simulating.{IsLineText}
use Rattle.ec_console.specs.Unmet.{unmet_of}
use Rattle.ec_console.proofs.PrintLemmas.{if_err}
use Rattle.cmd_sim.proofs.SimLemmas.{obeyed, obeyed_unsaid}
use Rattle.cmd_sim.proofs.simulation.SimulationTarget.obey.Goals as goal

pub returns-in_err-text-clause-unsaid : goal.returns-in_err-text-clause-unsaid
returns-in_err-text-clause-unsaid g c =
    if_err _ (obeyed_unsaid g.S.Watcher.observed c.self.inside.world c.self.inside.watcher c.self.inside.table.now c.self.inside.manner c.args.self.now c.args.step.now c.watch_action-output.new.world c.watch_action-output.new.watcher
    c.watch_action-output.result c.self.view_is c.watch_action-output.ensures.does c.watch_action-output.ensures.run c.watch_action-output.ensures.plan c.watch_action-output.ensures.observed)

pub returns-clause-said : goal.returns-clause-said
returns-clause-said g c =
    obeyed g.S.Watcher.observed c.self.inside.world c.self.inside.watcher c.self.inside.table.now c.self.inside.manner c.args.self.now c.args.step.now c.watch_action-output.new.world c.watch_action-output.new.watcher
    c.watch_action-output.result (string_bytes c.in_ok-text.text) (unmet_of c.is_counted.result) c.self.view_is c.watch_action-output.ensures.does c.watch_action-output.ensures.run c.watch_action-output.ensures.plan
    c.watch_action-output.ensures.observed (subst (λ (o : LineOutput). IsLineText c.self.inside.manner c.self.inside.table.now c.args.step.now.number c.watch_action-output.new.world o (string_bytes c.in_ok-text.text)) c.answer-answer.ensures c.in_ok-text.ensures)
    (ap unmet_of (c.is_counted.ensures ∙ (ap (λ (o : LineOutput). is_counted c.self.inside.manner.strict c.outcome.result o) c.answer-answer.ensures ∙ ap (λ w. is_counted c.self.inside.manner.strict w (answer_of c.args.step.now.expects_no c.watch_action-output.result)) c.outcome.ensures)))
