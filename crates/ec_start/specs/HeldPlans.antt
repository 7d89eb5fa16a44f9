-- A plan that is lent, or shared as the plan of a machine.
use Rattle.std.specs.Arc.{arc_value}
use Rattle.ec_link.specs.Plan.{PlanState, plan_of}
use Rattle.ec_start.specs.declared.held.HeldPlan.{HeldPlan}
use Rattle.ec_start.specs.declared.held.HeldPlan.TheVariants.{Lent, Shared}

-- the plan
abbrev pub plan_in : HeldPlan → PlanState
plan_in (Lent plan) = plan.now
plan_in (Shared machine) = plan_of (arc_value machine)
