-- A new world of a table, and what its plan is.
use Rattle.ec_world.proofs.Words.{ℕ, ◌≡◌, None, sym, subst, List, All, All-from_get_or, Identity, Contents, compile_fault, PlanState, plan_of, IsUsable, plan_usable, HasFewAssigned, IsStartable, startable_is_taken, no_plan, are-plans, Event, WorldState, IsRun, IsNew, RunOutcome, no_trouble}
use Rattle.ec_table.specs.Sound as table
use Rattle.ec_world.proofs.StartUp.WholeLaw.{compiled}

pub usable-of : (t : Contents) (plan : PlanState) → table.IsSound t → compile_fault t ≡ None → plan ≡ plan_of t → IsUsable plan
usable-of t plan sound free is = subst IsUsable (sym is) (plan_usable t sound free)

pub few-of : (t : Contents) (plan : PlanState) → table.IsSound t → compile_fault t ≡ None → plan ≡ plan_of t → All HasFewAssigned plan.slaves
few-of t plan sound free is = subst (λ (p : PlanState). All HasFewAssigned p.slaves) (sym is)
    (startable_is_taken (plan_of t).slaves (All-from_get_or IsStartable (plan_of t).slaves no_plan (are-plans t sound free).plans.planned))

-- a run of a new world
pub told-new : (t : Contents) (is : List Identity) (w : WorldState) (es : List Event) (v : WorldState) (made : ℕ) → IsNew t is w → IsRun w es v made → RunOutcome w es v made (no_trouble w)
told-new t is w es v made new run =
    subst (λ (x : WorldState). RunOutcome x es v made (no_trouble x)) (sym new.is)
    (compiled t is new.sound new.accepted new.one_each es v made (subst (λ (x : WorldState). IsRun x es v made) new.is run))
