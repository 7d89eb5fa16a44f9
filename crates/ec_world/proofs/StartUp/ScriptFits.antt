-- A start-up of a table that `compile` accepts never spends the numbers of frames: its script is too short for that.
use Rattle.ec_world.proofs.Words.{ℕ, ◌+◌, ◌*◌, ◌<◌, ◌≤◌, ◌≡◌, ◌==◌, Bool, true, false, List, [], ◌∷◌, if◌then◌else◌, length, SlaveState, None, arith, Contents, compile_fault, plan_of, PlanState, plan_sound, plan_usable, script, scripts_are_short, are-plans, cycle_limit, is_hardware, feeds_of, feeds_from, frames_up, frames-few}
use Rattle.std.proofs.Math.Nat.{mul-le-mul_right}
use Rattle.ec_link.specs.declared.plan.PartPlan.{PartPlan}
use Rattle.ec_link.specs.Plan.{predicted_of}
use Rattle.ec_start.specs.Feeding.{feed_over}
use Rattle.ec_table.specs.Sound as table

few-from : (p : PlanState) (k : ℕ) (qs : List PartPlan) → length (feeds_from p k qs) ≤ length qs
few-from p k [] = omega arith
few-from p k (q ∷ qs) =
    let rest = few-from p (k + 1) qs in
    elim (q.bytes == 0) as (λ (b : Bool). length (if b then feeds_from p (k + 1) qs else feed_over q (predicted_of p k) ∷ feeds_from p (k + 1) qs) ≤ length (q ∷ qs)) [
      | true ↦ omega (arith, rest)
      | false ↦ omega (arith, rest)
    ]

pub few_feeds : (p : PlanState) → length (feeds_of p) ≤ length p.parts
unfolding feeds_of
few_feeds p =
    let few = few-from p 0 p.parts in
    elim (is_hardware p.slaves) as (λ (b : Bool). length (if b then feeds_from p 0 p.parts else []) ≤ length p.parts) [
      | true ↦ few
      | false ↦ omega arith
    ]

-- whatever state its slaves are in
pub script_fits : (t : Contents) → table.IsSound t → compile_fault t ≡ None → (ss : List SlaveState) → frames_up (plan_of t).slaves (feeds_of (plan_of t)) ss < cycle_limit
script_fits t sound free ss =
    let s = plan_sound t sound free in
    let u = plan_usable t sound free in
    let plans = (are-plans t sound free).plans in
    let parts = few_feeds (plan_of t) in
    let most : 103 * (length (feeds_of (plan_of t)) + 1) ≤ 103 * 33 = omega (arith, parts, u.few_parts) in
    let all = mul-le-mul_right (length (script (plan_of t).slaves)) most in
    let frames = (frames-few (plan_of t).slaves (feeds_of (plan_of t)) plans ss).1 in
    omega (arith, frames, all, scripts_are_short (plan_of t).slaves plans.planned, s.as_many, s.few)
