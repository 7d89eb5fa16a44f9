-- From a new world to the plain machine.
use Rattle.ec_world.proofs.Words.{ℕ, zero, suc, ◌<◌, ◌≤◌, ◌≡◌, Bool, false, Option, None, refl, sym, ◌∙◌, ap, subst, arith, List, [], ◌∷◌, length, get_or, replicate, both_ways, length-replicate, Identity, plain_kind, device_identity, SlavePlan, PlanState, plan_of, plan_sound, plan_usable, are-plans, IsUsable, begun, bringup_switched_on as switched_on, IsOfKind, power_on_is, AreSlaves, kind_at, Starts, AreStartable, ends_of, begun-starts, feeds_of, parts_can_be_fed, Event, WorldState, Flight, no_slave, is_up, IsRun, IsFit, plain_of, slot_count, new_world, HasStarted, RunOutcome, NotYet, Started, WholeLaw, CompiledLaw, starting_of, Rising, AreGenuine, none_some, none_free}
use Rattle.ec_world.proofs.StartUp.Rising.{on_fit}
use Rattle.ec_world.proofs.Runs.OneOutcomeLaw.{HoldsFrames}
use Rattle.ec_world.proofs.Runs.PlanLaw.{run_keeps}
use Rattle.ec_world.proofs.StartUp.Lasting.{run_genuine}
use Rattle.ec_world.proofs.StartUp.Course.{LastReady, Course, IsLow, IsHigh, course}
use Rattle.ec_world.proofs.StartUp.IsReadyWorld.{ready-world}
use Rattle.ec_world.proofs.Refinement.StepsRefine.{runs_refine}

-- ---- a new world

on-count : (ps : List SlavePlan) (is : List Identity) → length is ≡ length ps → length (switched_on ps is) ≡ length ps
on-count [] is e = refl
on-count (p ∷ ps) [] e = absurd (omega (arith, e))
on-count (p ∷ ps) (i ∷ is) e = ap (λ (n : ℕ). suc n) (on-count ps is (omega (arith, e)))

on-slave : (ps : List SlavePlan) (is : List Identity) (k : ℕ) → length is ≡ length ps → k < length ps → IsOfKind (kind_at ps k) (get_or (switched_on ps is) k no_slave)
on-slave [] is k e l = absurd (omega (arith, l))
on-slave (p ∷ ps) [] k e l = absurd (omega (arith, e))
on-slave (p ∷ ps) (i ∷ is) zero e l = power_on_is p.kind i
on-slave (p ∷ ps) (i ∷ is) (suc k) e l = on-slave ps is k (omega (arith, e)) (omega (arith, l))

on-fit : (ps : List SlavePlan) (is : List Identity) (k : ℕ) → IsFit (get_or (switched_on ps is) k no_slave)
on-fit [] is k = on_fit plain_kind (device_identity plain_kind.device 0)
on-fit (p ∷ ps) [] k = on_fit plain_kind (device_identity plain_kind.device 0)
on-fit (p ∷ ps) (i ∷ is) zero = on_fit p.kind i
on-fit (p ∷ ps) (i ∷ is) (suc k) = on-fit ps is k

abbrev no-flags : PlanState → List Bool
no-flags plan = replicate (length plan.slaves) false

new-slaves : (plan : PlanState) (is : List Identity) → length plan.slaves ≤ 64 → length is ≡ length plan.slaves → AreSlaves (starting_of (new_world plan is) (no-flags plan) None)
unfolding begun
new-slaves plan is few e = record {
  slaves = on-count plan.slaves is e;
  troubles = length-replicate {A = Bool} (length plan.slaves) false;
  few = few;
  each = λ i l. on-slave plan.slaves is i e l;
}

new-starts : (plan : PlanState) (is : List Identity) → IsUsable plan → AreStartable plan.slaves → AreSlaves (starting_of (new_world plan is) (no-flags plan) None) → Starts (ends_of plan.slaves) (starting_of (new_world plan is) (no-flags plan) None)
unfolding begun
new-starts plan is sound planned h = begun-starts (starting_of (new_world plan is) (no-flags plan) None) h (parts_can_be_fed plan sound planned.each) planned

pub new-low : (plan : PlanState) (is : List Identity) → is_up (new_world plan is).start ≡ false
unfolding begun
new-low plan is = refl

new-plan : (plan : PlanState) (is : List Identity) → (new_world plan is).start.plan ≡ plan.slaves
unfolding begun
new-plan plan is = refl

new-feeds : (plan : PlanState) (is : List Identity) → (new_world plan is).start.feeds ≡ feeds_of plan
unfolding begun
new-feeds plan is = refl

pub new-rises : (plan : PlanState) (is : List Identity) → IsUsable plan → AreStartable plan.slaves → length is ≡ length plan.slaves → Rising (no-flags plan) (new_world plan is)
new-rises plan is sound planned e = record {
  same_plan = new-plan plan is;
  same_feeds = new-feeds plan is;
  slot = None;
  starts = new-starts plan is sound planned (new-slaves plan is sound.few_slaves e);
  slots = none_free slot_count;
  some_slots = omega (arith, length-replicate {A = Option Flight} slot_count None);
  fit = on-fit plan.slaves is;
  master_plan = refl;
  no_cycle = refl;
  master_ready = λ up. absurd (both_ways _ (new-low plan is) up);
  reported = λ r e. absurd (none_some r e);
}

-- ---- a run

has_started : (old : WorldState) (es : List Event) (new : WorldState) (made : ℕ) (flags : List Bool) → IsUsable old.plan → AreStartable old.plan.slaves → LastReady old es new made flags → HasStarted old es new made flags
has_started old es new made flags sound planned x =
    let usable : IsUsable x.ready.plan = subst IsUsable (sym x.plan_is) sound in
    let startable : AreStartable x.ready.plan.slaves = subst (λ (p : PlanState). AreStartable p.slaves) (sym x.plan_is) planned in
    let ready = ready-world _ x.ready usable startable x.rises x.up in
    let shows = runs_refine x.ready x.after new x.rest usable x.onward in
    record {
      before = x.before;
      event = x.event;
      after = x.after;
      split = x.split;
      mid = x.mid;
      first = x.first;
      to_mid = x.to_mid;
      not_yet = x.not_yet;
      ready = x.ready;
      step = x.step;
      plan_is = x.plan_is;
      is_ready = ready;
      unstopped = x.unstopped;
      shown = shows.shown (plain_of x.ready) ready.shows x.unstopped;
      made_is = omega (arith, x.sum, shows.made_is (plain_of x.ready) ready.shows x.unstopped);
    }

outcome_of : (old : WorldState) (es : List Event) (new : WorldState) (made : ℕ) (flags : List Bool) → IsUsable old.plan → AreStartable old.plan.slaves → Course old es new made flags → RunOutcome old es new made flags
outcome_of old es new made flags sound planned (IsLow low now r) = NotYet low (λ p s. both_ways _ low s.started)
outcome_of old es new made flags sound planned (IsHigh x) = Started (has_started old es new made flags sound planned x)

pub whole : WholeLaw
whole plan is sound planned e es w made h = outcome_of (new_world plan is) es w made (no-flags plan) sound planned
    (course es (new_world plan is) w made (no-flags plan) sound planned (new-rises plan is sound planned e) (new-low plan is) h)

-- ---- of a table that `compile` accepts

pub compiled : CompiledLaw
compiled t is sound free e es w made h =
    whole (plan_of t) is (plan_usable t sound free) (let a = (are-plans t sound free).plans in record { each = a.planned; alike = a.alike }) (omega (arith, e, (plan_sound t sound free).as_many)) es w made h

-- ---- a run at whose end the start-up isn't Ready: its slaves are devices, and the start-up's invariant holds

pub record StillRises (ps : List SlavePlan) (old new : WorldState) : Type 0 where
  pub flags : List Bool
  pub rises : Rising flags new
  pub plan_is : new.plan ≡ old.plan
  pub devices : AreGenuine ps new.slaves

pub new-holds : (plan : PlanState) (is : List Identity) → HoldsFrames (new_world plan is)
new-holds plan is k x e = absurd (none_some x (sym (none_free slot_count k) ∙ e))

pub still_rises : (es : List Event) (ps : List SlavePlan) (old new : WorldState) (made : ℕ) (flags : List Bool) → IsUsable old.plan → AreStartable old.plan.slaves → Rising flags old → is_up old.start ≡ false
    → HoldsFrames old → AreGenuine ps old.slaves → IsRun old es new made → is_up new.start ≡ false → StillRises ps old new
still_rises es ps old new made flags usable planned r low holds g h down = by (course es old new made flags usable planned r low h)
  where
    by : Course old es new made flags → StillRises ps old new
    by (IsLow off now rises) = record { flags = now; rises = rises; plan_is = run_keeps old es new made h; devices = run_genuine ps es old new made holds g h }
    by (IsHigh x) = absurd (both_ways _ down (ap is_up x.unstopped ∙ x.up))
