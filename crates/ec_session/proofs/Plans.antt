-- The plan of a session: what holds of it, and that each call keeps it.
use Rattle.std.proofs.Common.{◌≡◌, ◌∙◌, ℕ, Bool, true, false, if◌then◌else◌, List, None, Result, Ok, Err, OnOk, OnErr, IfOk, refl, ap, subst, sym}
use Rattle.std.specs.Prelude.{All}
use Rattle.std.proofs.lemmas.List.Elements.{All-from_get_or}
use Rattle.ec_table.specs.Contents.{Contents}
use Rattle.ec_table.specs.Sound as table
use Rattle.ec_link.specs.Faults.{compile_fault}
use Rattle.ec_link.specs.Plan.{PlanState, plan_of}
use Rattle.ec_link.specs.Usable.{IsUsable}
use Rattle.ec_link.specs.declared.settings.SlavePlan.{SlavePlan}
use Rattle.ec_start.specs.Planned.{HasFewAssigned, IsStartable}
use Rattle.ec_start.specs.declared.action.Feed.{Feed}
use Rattle.ec_start.specs.Feeding.{feeds_of}
use Rattle.ec_start.specs.Laws.{HasSamePlan}
use Rattle.ec_start.proofs.Assigned.{startable_is_taken}
use Rattle.ec_start.proofs.LawLemmas.{plans_stay}
use Rattle.ec_start.specs.Running.{IsStartTaken, StartState, asked, begun, has_failed, restarted}
use Rattle.ec_bringup.specs.Starting.{no_plan}
use Rattle.ec_bringup.proofs.Script.CompiledPlansLaw.{are-plans}
use Rattle.ec_cycle.specs.Closing.{ReportState}
use Rattle.ec_cycle.specs.Master.{Begun, IsClosed, IsTaken, MasterState, OpenCycle, new_master}
use Rattle.ec_cycle.specs.declared.error.CycleError.{CycleError}
use Rattle.ec_cycle.proofs.Matches.{taken_plan as keeps_plan}
use Rattle.ec_session.specs.Held.{IsOfTable}
use Rattle.ec_session.specs.Sessions.{resumed}

-- ---- what holds of the plan of a table

pub has_few_assigned : (t u : Contents) → table.IsSound t → compile_fault t ≡ None → u ≡ t → All HasFewAssigned (plan_of u).slaves
has_few_assigned t u sound free same = subst (λ (x : Contents). All HasFewAssigned (plan_of x).slaves) (sym same)
    (startable_is_taken (plan_of t).slaves (All-from_get_or IsStartable (plan_of t).slaves no_plan (are-plans t sound free).plans.planned))

pub is_usable : (t u : Contents) → IsUsable (plan_of t) → u ≡ t → IsUsable (plan_of u)
is_usable t u usable same = subst (λ (x : Contents). IsUsable (plan_of x)) (sym same) usable

-- ---- whatever a start-up does, it is one of the same plan

-- a start-up that begins again is one as any: the law of restarts says that it keeps its plan
pub begun_plan : (s : StartState) (number : ℕ) → HasSamePlan s (begun s.plan s.feeds number)
begun_plan s number = let h = (plans_stay (record s { next = number })).restart_keeps in record { plan = h.plan; feeds = h.feeds }

pub begun_slaves : (slaves : List SlavePlan) (feeds : List Feed) (number : ℕ) → ((begun slaves feeds number).plan ≡ slaves) × ((begun slaves feeds number).feeds ≡ feeds)
begun_slaves slaves feeds number =
    let h = (plans_stay (record (begun slaves feeds number) { plan = slaves; feeds = feeds; next = number })).restart_keeps in (h.plan, h.feeds)

pub then_plan : (s t u : StartState) → HasSamePlan s t → HasSamePlan t u → HasSamePlan s u
then_plan s t u h k = record { plan = k.plan ∙ h.plan; feeds = k.feeds ∙ h.feeds }

resumed_plan : (s : StartState) → HasSamePlan s (resumed s)
resumed_plan s = go (has_failed s.phase)
  where
    go : (b : Bool) → HasSamePlan s (if b then restarted s else s)
    go true = (plans_stay s).restart_keeps
    go false = record { plan = refl; feeds = refl }

pub next_plan : (s : StartState) → HasSamePlan s (asked (resumed s))
next_plan s = then_plan s (resumed s) (asked (resumed s)) (resumed_plan s) (plans_stay (resumed s)).next_keeps

pub take_plan : (s new : StartState) (payload : List ℕ) (is_accepted : Bool) → IsStartTaken s payload is_accepted new → HasSamePlan s new
take_plan s new payload is_accepted taken = (plans_stay s).take_keeps payload is_accepted new taken

-- ---- and so is a master

pub taken_plan : (old new : MasterState) (payload : List ℕ) (is_accepted : Bool) → IsTaken old payload is_accepted new → new.plan ≡ old.plan
taken_plan old new payload is_accepted taken = keeps_plan old new payload is_accepted taken

pub cycle_plan : (answer : Result Unit CycleError) (old new : MasterState) → OnOk answer ((c : OpenCycle) × Begun old new c) → OnErr answer (new ≡ old) → new.plan ≡ old.plan
cycle_plan (Ok done) old new begins kept = ap (λ (m : MasterState). m.plan) begins.1.is
cycle_plan (Err error) old new begins kept = ap (λ (m : MasterState). m.plan) kept

pub closed_plan : (answer : Result ReportState CycleError) (old new : MasterState) → IfOk answer (λ r. IsClosed old new r) → OnErr answer (new ≡ old) → new.plan ≡ old.plan
closed_plan (Ok report) old new closed kept = ap (λ (m : MasterState). m.plan) closed.master
closed_plan (Err error) old new closed kept = ap (λ (m : MasterState). m.plan) kept

-- ---- a session stays one of its table

pub same_slaves : (t : Contents) (s : StartState) (m : MasterState) → IsOfTable t s m → s.plan ≡ m.plan.slaves
same_slaves t s m h = h.startup ∙ ap (λ (p : PlanState). p.slaves) (sym h.master)

pub same_feeds : (t : Contents) (s : StartState) (m : MasterState) → IsOfTable t s m → s.feeds ≡ feeds_of m.plan
same_feeds t s m h = h.feeds ∙ ap feeds_of (sym h.master)

pub with_startup : (t : Contents) (s new : StartState) (m : MasterState) → IsOfTable t s m → HasSamePlan s new → IsOfTable t new m
with_startup t s new m h same = record { startup = same.plan ∙ h.startup; feeds = same.feeds ∙ h.feeds; master = h.master }

pub with_master : (t : Contents) (s : StartState) (m new : MasterState) → IsOfTable t s m → new.plan ≡ m.plan → IsOfTable t s new
with_master t s m new h same = record { startup = h.startup; feeds = h.feeds; master = same ∙ h.master }

pub is_new : (t u v : Contents) (s : StartState) (m : MasterState) → u ≡ t → v ≡ t → s ≡ begun (plan_of u).slaves (feeds_of (plan_of u)) 0 → m ≡ new_master (plan_of v) → IsOfTable t s m
is_new t u v s m one other first new = record {
  startup = ap (λ (x : StartState). x.plan) first ∙ ((begun_slaves (plan_of u).slaves (feeds_of (plan_of u)) 0).0 ∙ ap (λ (x : Contents). (plan_of x).slaves) one);
  feeds = ap (λ (x : StartState). x.feeds) first ∙ ((begun_slaves (plan_of u).slaves (feeds_of (plan_of u)) 0).1 ∙ ap (λ (x : Contents). feeds_of (plan_of x)) one);
  master = ap (λ (x : MasterState). x.plan) new ∙ ap plan_of other;
}
