use Rattle.ec_script.specs.declared.line.Task.TheVariants as task
use Rattle.ec_console.proofs.PrintLemmas.{if_err}
use Rattle.ec_console.proofs.SayLemmas.{one_all, part_one, part_unsaid}
use Rattle.ec_console.proofs.running.obey_step.Goals as goal

pub returns-in_err-said-clause-part : goal.returns-in_err-said-clause-part
returns-in_err-said-clause-part g c = if_err _ (part_unsaid g.T.Target.says c.args.target.now c.obey.new.self c.args.step.now c.args.output.now c.in_err-said.ensures.unsaid)

pub returns-in_err-print_text-clause-part : goal.returns-in_err-print_text-clause-part
returns-in_err-print_text-clause-part g c =
    if_err _ (part_one g.T.Target.says c.args.target.now c.obey.new.self (task.Step c.args.step.now) _ c.as_bytes.result.now _ _ _ c.in_ok-said.ensures.said c.as_bytes.ensures.value c.in_err-print_text.ensures.part.part)

pub returns-clause-all : goal.returns-clause-all
returns-clause-all g c =
    one_all g.T.Target.says c.args.target.now c.obey.new.self (task.Step c.args.step.now) _ c.as_bytes.result.now _ _ _ c.in_ok-said.ensures.said c.as_bytes.ensures.value c.in_ok-print_text.ensures.all
