use Rattle.std.proofs.Common.{◌∙◌, [], ◌∷◌, refl, subst}
use Rattle.ec_script.specs.declared.line.Task.{Task}
use Rattle.ec_console.specs.Saying.{PrintsAll, PrintsPart}
use Rattle.ec_console.specs.Unmet.{unmet_of}
use Rattle.ec_console.proofs.PrintLemmas.{if_err}
use Rattle.ec_console.proofs.SayLemmas.{none_done, task_more, task_part, tasks_all, where_false, where_true}
use Rattle.ec_console.proofs.running.obey_tasks.Goals.{then-branch, else-branch}
use Rattle.ec_console.proofs.running.obey_tasks.Goals as goal

pub loop-task-init : goal.loop-task-init
loop-task-init g c = record { said = none_done g.T.Target.says c.args.target.now c.args.output.now; table = refl }

pub returns-in_err-obey_task-clause-part : goal.returns-in_err-obey_task-clause-part
returns-in_err-obey_task-clause-part g c =
    if_err _ (task_part g.T.Target.says c.args.target.now c.args.tasks.now c.loop-task.task-index c.task-item.result c.loop-task.target c.loop-task.unmet c.obey_task.new.target _ _ _ c.loop-task.invariant.said c.loop-task-test.true
    (subst (λ (t : Task). PrintsPart g.T.Target.says c.loop-task.target (t ∷ []) c.obey_task.new.target c.loop-task.output c.obey_task.new.output) c.task-item.is c.in_err-obey_task.ensures.part))

pub returns-in_err-obey_task-clause-table : goal.returns-in_err-obey_task-clause-table
returns-in_err-obey_task-clause-table g c = c.obey_task.ensures.table ∙ c.loop-task.invariant.table

pub loop-task-preserved : goal.loop-task-preserved
loop-task-preserved g c =
    let all = subst (λ (t : Task). PrintsAll g.T.Target.says c.loop-task.target (t ∷ []) c.obey_task.new.target (unmet_of c.in_ok-obey_task.field-0) c.loop-task.output c.obey_task.new.output) c.task-item.is c.in_ok-obey_task.ensures.all in
    record {
      said = elim c.if-branch.branch [
        | then-branch w ↦
            task_more g.T.Target.says c.args.target.now c.args.tasks.now c.loop-task.task-index c.task-item.result c.loop-task.target c.obey_task.new.target c.loop-task.unmet c.if-branch.unmet c.in_ok-obey_task.field-0 _ _ _ c.loop-task.invariant.said
            c.loop-task-test.true all (where_true c.in_ok-obey_task.field-0 c.if-branch.unmet _ c.loop-task.unmet w.if-branch.true (w.unmet-is ∙ w.saturating_add-unmet.ensures))
        | else-branch w ↦
            task_more g.T.Target.says c.args.target.now c.args.tasks.now c.loop-task.task-index c.task-item.result c.loop-task.target c.obey_task.new.target c.loop-task.unmet c.if-branch.unmet c.in_ok-obey_task.field-0 _ _ _ c.loop-task.invariant.said
            c.loop-task-test.true all (where_false c.in_ok-obey_task.field-0 c.if-branch.unmet _ c.loop-task.unmet w.if-branch.false w.unmet-is)
      ];
      table = c.obey_task.ensures.table ∙ c.loop-task.invariant.table;
    }

pub returns-clause-all : goal.returns-clause-all
returns-clause-all g c = tasks_all g.T.Target.says c.args.target.now c.args.tasks.now c.loop-task.task-index c.loop-task.target c.loop-task.unmet _ _ c.loop-task.invariant.said c.loop-task-test.false

pub returns-clause-table : goal.returns-clause-table
returns-clause-table g c = c.loop-task.invariant.table
