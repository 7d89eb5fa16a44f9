use Rattle.std.proofs.Common.{◌≡◌, ◌∙◌, ℕ, List, ap, subst}
use Rattle.std.specs.Prelude.{IfOk, string_bytes}
use Rattle.ec_script.specs.declared.line.LineAction.{LineAction}
use Rattle.ec_script.specs.Outputs.{answer_of}
use Rattle.ec_script.specs.Texts.{output_text}
use Rattle.ec_simulation.specs.Statuses.{statuses}
use Rattle.ec_simulation.specs.Views.{view_of}
use Rattle.ec_simulation.specs.Work.{Does}
use Rattle.ec_simulation.proofs.Readying.{ready_law, says_ready}
use Rattle.ec_simulation.proofs.run.run_step.Goals as goal

pub returns-clause-up : goal.returns-clause-up
returns-clause-up c = λ from is.
    let t = c.args.table.now in
    let n = c.args.step.now.number in
    let old = c.args.world.now in
    let new = c.do_action-output.new.world in
    let word = c.do_action-output.result in
    let does = subst (λ (a : LineAction). Does a old new word) is c.do_action-output.ensures.does in (
      (ready_law t old new word from does).1,
      λ plainly. subst (λ (xs : List ℕ). IfOk c.printed_text.result (λ text. string_bytes text ≡ xs))
          (ap (output_text t n (view_of new) (statuses new)) (c.answer.ensures ∙ ap (λ b. answer_of b word) plainly) ∙ says_ready t old new n word from does) c.printed_text.ensures,
    )
