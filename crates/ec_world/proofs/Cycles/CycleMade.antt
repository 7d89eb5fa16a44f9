-- A world at rest makes a cycle whole.
use Rattle.ec_world.proofs.Words.{IsUnstopped, ◌≡◌, ◌≤◌, Bool, true, None, ◌∙◌, ap, arith, List, [], ◌∷◌, length, replicate, unwrap_or, Identity, Contents, meaning, PlanState, plan_of, plan_sound, Plain, run, WorldState, cycle_of, Rests, false, sym, subst, IsUsable, Event, step, Refines}
use Rattle.ec_world.proofs.Cycles.AtRest.{Beginning, beginning, comes_of, free_of, rounds, going, whole_made}
use Rattle.ec_world.proofs.StartUp.NewLaw.{free_slots}
use Rattle.ec_world.proofs.Refinement.StepsRefine.{steps_refine}
use Rattle.ec_world.proofs.Runs.Sizes.{run_same}
use Rattle.ec_world.proofs.Runs.Unstopped.{calm_step, made_calm, full_parts}
use Rattle.ec_world.proofs.StartUp.HasTurned as turns

-- ---- what the plain machine makes whole, a world that shows it makes whole

goes_full : (es : List Event) (w new : WorldState) (all : Bool) (p : Plain) → IsUsable w.plan → Refines w p → turns.Goes es w new all → (run (meaning w.plan) p es).made ≡ length es → all ≡ true
goes_full [] w new all p usable shows h full = h.1
goes_full (e ∷ es) w new all p usable shows h full =
    let s = steps_refine w e h.0 h.1 usable h.2 in
    let q : Plain = unwrap_or (step (meaning w.plan) p e) p in
    let both = full_parts (meaning w.plan) p e es full in
    let still : IsUnstopped w h.0 = calm_step w e h.0 h.1 (made_calm (meaning w.plan) p e both.0) shows.started h.2 in
    let plan = s.same_plan p shows in
    goes_full es h.0 new all q (subst IsUsable (sym plan) usable) (s.shown p shows still)
    (turns.onward ((new ≡ h.0) × (all ≡ false)) h.1 (s.made_is p shows still ∙ both.0) h.3)
    (ap (λ (x : PlanState). (run (meaning x) q es).made) plan ∙ both.1)

-- ---- of a world at rest

-- what it is, for the places of its frames
pub record IsFreeOf (t : Contents) (w : WorldState) : Type 0 where
  pub slaves : length w.slaves ≡ length t.slaves
  pub parts : length w.master.plan.parts ≡ length (plan_of t).parts
  pub slots : w.slots ≡ replicate 64 None
  pub few : length (plan_of t).parts ≤ 64

module _ (t : Contents) (ids : List Identity) (w : WorldState) (r : Rests t ids w) where
  abbrev b : Beginning t w
  b = beginning t ids w (comes_of t ids w r) (free_of t w r.at_rest)

  pub cycle_made : (new : WorldState) (all : Bool) → turns.Goes (cycle_of t) w new all → all ≡ true
  cycle_made new all h = goes_full (cycle_of t) w new all b.p b.usable b.shown h (whole_made t w b (rounds t) (going t w b).after.cycle (going t w b).made (going t w b).after.is_open)

  pub free_there : IsFreeOf t w
  free_there =
      let few = b.usable.few_parts in
      let same = ap (λ (x : PlanState). length x.parts) b.w_plan in
      record {
        slaves = b.shown.count ∙ (ap (λ (x : PlanState). length x.slaves) b.w_plan ∙ (plan_sound t r.new.sound r.new.accepted).as_many);
        parts = ap (λ (x : PlanState). length x.parts) (b.shown.same_plan ∙ b.w_plan);
        slots = free_slots 64 w.slots ((run_same r.old r.events w r.made r.reached).slots ∙ ap (λ (x : WorldState). length x.slots) r.new.is) r.at_rest.no_frame;
        few = omega (arith, few, same);
      }
