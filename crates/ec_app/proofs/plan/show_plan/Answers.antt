use Rattle.ec_app.proofs.PlanLemmas.{memory_refused}
use Rattle.ec_app.proofs.plan.show_plan.Goals as goal

pub returns-clause-refused : goal.returns-clause-refused
returns-clause-refused c = memory_refused _ c.args.text.now c.text_of.ensures.memory
