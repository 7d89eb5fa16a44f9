use Rattle.ec_bringup.proofs.Script.CompiledPlansLaw.{are-plans}
use Rattle.ec_bringup.proofs.laws.compiled_plans.Goals as goal

pub returns : goal.returns
returns c = are-plans
