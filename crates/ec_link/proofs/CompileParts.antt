-- The parts of `compile`.
use Rattle.std.proofs.Common.{◌≡◌, ℕ, ◌≤◌, List, length, All, sym, ap, ◌∙◌, subst, arith, None, Result, Ok, Err}
use Rattle.std.specs.Prelude.{IfOk, OnOk}
use Rattle.ec_table.specs.Contents.{Contents}
use Rattle.ec_link.specs.declared.sizes.SlaveSize.{SlaveSize}
use Rattle.ec_link.specs.declared.layout.Part.{Part}
use Rattle.ec_link.specs.declared.layout.Seat.{Seat}
use Rattle.ec_link.specs.declared.plan.PartPlan.{PartPlan}
use Rattle.ec_link.specs.Sizes.{table_sizes}
use Rattle.ec_link.specs.Layout.{LayoutState, layout}
use Rattle.ec_link.specs.Errors.{LinkError}
use Rattle.ec_link.specs.Faults.{compile_fault}
use Rattle.ec_link.specs.Plan.{PlanState, plan_of, addressed, first_address}
use Rattle.ec_link.proofs.FaultTests.{sizes_count}
use Rattle.ec_link.proofs.PlanLists.{few_slaves, sizes_fit, small_parts, seated_from}
use Rattle.ec_link.specs.Limits.{IsSize, AreSeated, AreSmall}

pub ruleset slave_steps = (few_slaves, sizes_fit)

-- ---- what holds of the plan of a table without faults

pub of_the_plan : (t : Contents) (o : Result PlanState LinkError) (Holds : PlanState → Type 0) → IfOk o (λ p. p ≡ plan_of t) → OnOk o (compile_fault t ≡ None) → (compile_fault t ≡ None → Holds (plan_of t)) → IfOk o Holds
of_the_plan t (Ok p) Holds is free h = subst Holds (sym is) (h free)
of_the_plan t (Err e) Holds is free h = tt

-- ---- a layout that is the table's

at_sizes : (t : Contents) (zs : List SlaveSize) (l : LayoutState) → zs ≡ table_sizes t → l ≡ layout (table_sizes t) → l ≡ layout zs
at_sizes t zs l e h = h ∙ ap layout (sym e)

pub laid_small : (t : Contents) (zs : List SlaveSize) (l : LayoutState) (ps : List Part) → zs ≡ table_sizes t → l ≡ layout (table_sizes t) → All IsSize zs → ps ≡ l.parts → AreSmall ps
laid_small t zs l ps e h fit is = subst AreSmall (sym (is ∙ ap (λ (x : LayoutState). x.parts) (at_sizes t zs l e h))) (small_parts zs fit)

pub laid_seated : (t : Contents) (zs : List SlaveSize) (l : LayoutState) (plans : List PartPlan) (seats : List Seat) → zs ≡ table_sizes t → l ≡ layout (table_sizes t) → All IsSize zs → length l.parts ≤ 64
    → plans ≡ addressed first_address l.parts → seats ≡ l.seats → AreSeated (length t.slaves) plans seats
laid_seated t zs l plans seats e h fit few all at =
    let same : l ≡ layout zs = at_sizes t zs l e h in
    let s : AreSeated (length zs) plans (layout zs).seats =
    seated_from zs plans fit (omega (arith, few, ap (λ (x : LayoutState). length x.parts) same)) (all ∙ ap (λ (x : LayoutState). addressed first_address x.parts) same) in
    subst (λ (n : ℕ). AreSeated n plans seats) (sizes_count t zs e) (subst (AreSeated (length zs) plans) (sym (at ∙ ap (λ (x : LayoutState). x.seats) same)) s)
