use Rattle.ec_args.proofs.RequestLemmas.{plan_is_read}
use Rattle.ec_args.proofs.laws.plan_is_read_as_plan.Goals as goal

pub returns : goal.returns
returns c = plan_is_read
