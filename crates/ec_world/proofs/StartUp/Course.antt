-- The course of a world: it starts up, is Ready, may be stopped and start up again. At each instant it is one that starts up, or Ready
-- since some event.
use Rattle.ec_world.proofs.Words.{ℕ, ◌+◌, ◌<◌, ◌≤◌, ◌≡◌, ◌⊎◌, not, Bool, true, false, Option, Some, None, is_none, refl, sym, ◌∙◌, ap, subst, inl, inr, arith, if◌then◌else◌, List, [], ◌∷◌, ◌++◌, length, length-set, cases_Bool, both_ways, and_parts, eqb-true, false≢true, true≢false, nones, unwrap_or, IsUsable, meaning, PlanState, SlavePlan, kind_at, IsOfKind, Starts, Over, AreStartable, ends_of, Lost, Failed, begun, feeds_of, AreFeedsOf, parts_can_be_fed, StartState, OpenCycle, MasterState, Event, StartNext, Fault, ResetSlave as Reset, Stop, Plain, step, WorldState, slave_of, is_up, stopped, can_happen, IsStep, IsRun, Refines, flags_after, flags_of, Rising, starting_of, IsReadyWorld, plain_of, none_some}
use Rattle.ec_world.proofs.Runs.OneOutcomeLaw.{HoldsFrames, step_holds}
use Rattle.ec_world.proofs.Runs.Unstopped.{stays_or_stops, stopped_low, stopped_plan, stopped_feeds}
use Rattle.ec_world.proofs.Runs.PlanLaw.{plan_stays}
use Rattle.ec_world.proofs.Runs.Sizes.{step_same}
use Rattle.ec_world.proofs.Refinement.StepsRefine.{steps_refine}
use Rattle.ec_world.proofs.StartUp.Rising.{event-rises, all-none}
use Rattle.ec_world.proofs.StartUp.IsReadyWorld.{ready-world, no-slots}
use Rattle.ec_world.proofs.StartUp.Lasting.{OfKinds, Fit, Each, step_lasts, kinds_last, fits_last}

-- ---- a Ready world, with what a stop needs

pub record Runs (flags : List Bool) (w : WorldState) : Type 0 where
  pub plain : Plain
  pub shows : Refines w plain
  pub same_plan : w.start.plan ≡ w.plan.slaves
  pub same_feeds : w.start.feeds ≡ feeds_of w.plan
  pub some_slots : 0 < length w.slots
  pub flagged : length flags ≡ length w.plan.slaves
  pub kinds : Each (OfKinds w.plan.slaves) w.slaves
  pub fit : Each Fit w.slaves
  pub holds : HoldsFrames w

-- as it becomes Ready
now_runs : (flags : List Bool) (w : WorldState) → IsUsable w.plan → AreStartable w.plan.slaves → Rising flags w → is_up w.start ≡ true → Runs flags w
now_runs flags w usable planned r up =
    let ready : IsReadyWorld flags w = ready-world flags w usable planned r up in
    let none = no-slots flags w r up in
    record {
      plain = plain_of w;
      shows = ready.shows;
      same_plan = r.same_plan;
      same_feeds = r.same_feeds;
      some_slots = r.some_slots;
      flagged = r.starts.slaves.troubles ∙ ap length r.same_plan;
      kinds = λ k l. subst (λ (ps : List SlavePlan). IsOfKind (kind_at ps k) (slave_of w k)) r.same_plan (r.starts.slaves.each k (let z = ap length r.same_plan in omega (arith, l, z)));
      fit = r.fit;
      holds = λ k x e. absurd (none_some x (sym (none k) ∙ e));
    }

flags_many : (w : WorldState) (e : Event) (flags : List Bool) → is_up w.start ≡ true → can_happen w e ≡ true → length (flags_after w e flags) ≡ length flags
flags_many w StartNext flags up can = absurd (true≢false (sym (and_parts (not (is_up w.start)) _ can).0 ∙ ap not up))
flags_many w (Fault s) flags up can = length-set flags s true
flags_many w (Reset s) flags up can = length-set flags s true
flags_many w _ flags up can = refl

flags_by : (one : Bool) (w : WorldState) (e : Event) (v : WorldState) (flags : List Bool) → is_up w.start ≡ true → IsStep w e v one → length (if one then flags_after w e flags else flags) ≡ length flags
flags_by true w e v flags up h = flags_many w e flags up (sym h.can)
flags_by false w e v flags up h = refl

-- an event that is no stop
still_runs : (flags : List Bool) (w : WorldState) (e : Event) (v : WorldState) (one : Bool) → IsUsable w.plan → Runs flags w → IsStep w e v one → v.start ≡ w.start
    → Runs (if one then flags_after w e flags else flags) v
still_runs flags w e v one usable r h same =
    let plan : v.plan ≡ w.plan = plan_stays w e v one h in
    let kinds = step_lasts (OfKinds w.plan.slaves) (kinds_last w.plan.slaves) w e v one r.holds r.kinds h in
    let fit = step_lasts Fit fits_last w e v one r.holds r.fit h in
    let slots = (step_same w e v one h).slots in
    record {
      plain = unwrap_or (step (meaning w.plan) r.plain e) r.plain;
      shows = (steps_refine w e v one usable h).shown r.plain r.shows same;
      same_plan = ap (λ (s : StartState). s.plan) same ∙ (r.same_plan ∙ ap (λ (p : PlanState). p.slaves) (sym plan));
      same_feeds = ap (λ (s : StartState). s.feeds) same ∙ (r.same_feeds ∙ ap feeds_of (sym plan));
      some_slots = (let some = r.some_slots in omega (arith, slots, some));
      flagged = flags_by one w e v flags r.shows.started h ∙ (r.flagged ∙ ap (λ (p : PlanState). length p.slaves) (sym plan));
      kinds = subst (λ (p : PlanState). Each (OfKinds p.slaves) v.slaves) (sym plan) kinds.each;
      fit = fit.each;
      holds = step_holds w e v one h r.holds;
    }

no_cycle : (o : Option OpenCycle) → is_none o ≡ true → o ≡ None
no_cycle None e = refl
no_cycle (Some c) e = absurd (false≢true e)

stop_fails : (s : StartState) (m : MasterState) → (stopped s m).phase ≡ Failed Lost
unfolding begun
stop_fails s m = refl

-- a stop
now_rises : (flags : List Bool) (w v : WorldState) → IsUsable w.plan → AreStartable w.plan.slaves → Runs flags w → IsStep w Stop v true → Rising flags v
now_rises flags w v usable planned r h =
    let u : WorldState = record w { start = stopped w.start w.master } in
    let can = and_parts (is_up w.start) _ (sym h.can) in
    let free = and_parts (is_none w.master.cycle) _ can.1 in
    let same : u.start.plan ≡ w.plan.slaves = stopped_plan w.start w.master ∙ r.same_plan in
    let feeds : u.start.feeds ≡ feeds_of w.plan = stopped_feeds w.start w.master ∙ r.same_feeds in
    let starts : Starts (ends_of w.plan.slaves) (starting_of u flags None) = record {
      slaves = record {
        slaves = r.shows.count ∙ ap length (sym same);
        troubles = r.flagged ∙ ap length (sym same);
        few = subst (λ (ps : List SlavePlan). length ps ≤ 64) (sym same) usable.few_slaves;
        each = subst (λ (ps : List SlavePlan). (i : ℕ) → i < length ps → IsOfKind (kind_at ps i) (slave_of w i)) (sym same) r.kinds;
      };
      feeds = subst (AreFeedsOf u.start.plan) (sym feeds) (subst (λ (ps : List SlavePlan). AreFeedsOf ps (feeds_of w.plan)) (sym same) (parts_can_be_fed w.plan usable planned.each));
      instant = Over (record { failure = Lost; failed = stop_fails w.start w.master });
    } in
    subst (Rising flags) (sym (h.happens refl)) (record {
      same_plan = same;
      same_feeds = feeds;
      slot = None;
      starts = starts;
      slots = λ k. all-none w.slots k (eqb-true (nones w.slots) (length w.slots) free.1);
      some_slots = r.some_slots;
      fit = r.fit;
      master_plan = r.shows.same_plan;
      no_cycle = no_cycle w.master.cycle free.0;
      master_ready = λ up. absurd (both_ways _ (stopped_low w.start w.master) up);
      reported = λ x e. r.shows.report.counters x e;
    })

-- ---- a step of a world that starts up

pub step-rises : (flags : List Bool) (old : WorldState) (e : Event) (new : WorldState) (one : Bool) → AreStartable old.plan.slaves → Rising flags old → is_up old.start ≡ false → IsStep old e new one
    → Rising (if one then flags_after old e flags else flags) new
step-rises flags old e new true planned r low h = event-rises flags old r low e new planned (sym h.can) (h.happens refl)
step-rises flags old e new false planned r low h = subst (Rising flags) (sym (h.refused refl)) r

-- ---- a run

-- the last event that made it Ready, and the run since
pub record LastReady (old : WorldState) (es : List Event) (new : WorldState) (made : ℕ) (flags : List Bool) : Type 0 where
  pub before : List Event
  pub event : Event
  pub after : List Event
  pub split : es ≡ before ++ (event ∷ after)
  pub mid : WorldState
  pub first : ℕ
  pub to_mid : IsRun old before mid first
  pub not_yet : is_up mid.start ≡ false
  pub ready : WorldState
  pub step : IsStep mid event ready true
  pub plan_is : ready.plan ≡ old.plan
  pub rises : Rising (flags_after mid event (flags_of old before mid first to_mid flags)) ready
  pub up : is_up ready.start ≡ true
  pub rest : ℕ
  pub onward : IsRun ready after new rest
  pub unstopped : new.start ≡ ready.start
  pub sum : made ≡ first + 1 + rest

-- where a run leads
pub data Course (old : WorldState) (es : List Event) (new : WorldState) (made : ℕ) (flags : List Bool) : Type 0 where
  IsLow : is_up new.start ≡ false → (now : List Bool) → Rising now new → Course old es new made flags
  IsHigh : LastReady old es new made flags → Course old es new made flags

-- an event before it
later : (old : WorldState) (e : Event) (es : List Event) (mid new : WorldState) (one : Bool) (rest made : ℕ) (flags : List Bool) → (step : IsStep old e mid one)
    → made ≡ (if one then 1 else 0) + rest → Course mid es new rest (if one then flags_after old e flags else flags) → Course old (e ∷ es) new made flags
later old e es mid new one rest made flags step count (IsLow low now r) = IsLow low now r
later old e es mid new one rest made flags step count (IsHigh h) = IsHigh (record {
  before = e ∷ h.before;
  event = h.event;
  after = h.after;
  split = ap (λ xs. e ∷ xs) h.split;
  mid = h.mid;
  first = (if one then 1 else 0) + h.first;
  to_mid = (mid, one, h.first, step, h.to_mid, refl);
  not_yet = h.not_yet;
  ready = h.ready;
  step = h.step;
  plan_is = h.plan_is ∙ plan_stays old e mid one step;
  rises = h.rises;
  up = h.up;
  rest = h.rest;
  onward = h.onward;
  unstopped = h.unstopped;
  sum = omega (arith, count, h.sum);
})

-- the event that makes it Ready, and no stop since
reached : (old : WorldState) (e : Event) (es : List Event) (mid new : WorldState) (one : Bool) (rest made : ℕ) (flags : List Bool) → is_up old.start ≡ false → IsStep old e mid one → is_up mid.start ≡ true
    → Rising (if one then flags_after old e flags else flags) mid → IsRun mid es new rest → new.start ≡ mid.start → made ≡ (if one then 1 else 0) + rest → LastReady old (e ∷ es) new made flags
reached old e es mid new false rest made flags low h up r tail same count = absurd (both_ways _ (ap (λ (w : WorldState). is_up w.start) (h.refused refl) ∙ low) up)
reached old e es mid new true rest made flags low h up r tail same count = record {
  before = [];
  event = e;
  after = es;
  split = refl;
  mid = old;
  first = 0;
  to_mid = (refl, refl);
  not_yet = low;
  ready = mid;
  step = h;
  plan_is = plan_stays old e mid true h;
  rises = r;
  up = up;
  rest = rest;
  onward = tail;
  unstopped = same;
  sum = omega (arith, count);
}

-- a world that starts up, or is Ready
data Comes (flags : List Bool) (w : WorldState) : Type 0 where
  FromLow : Rising flags w → is_up w.start ≡ false → Comes flags w
  FromHigh : Runs flags w → Comes flags w

-- a run leads somewhere, or is one of a Ready world without a stop
abbrev Leads : WorldState → List Event → WorldState → ℕ → List Bool → Type 0
Leads old es new made flags = ((is_up old.start ≡ true) × (new.start ≡ old.start)) ⊎ Course old es new made flags

stop_step : (old : WorldState) (e : Event) (mid : WorldState) (one : Bool) → e ≡ Stop → one ≡ true → IsStep old e mid one → IsStep old Stop mid true
stop_step old e mid one is made h = subst (λ (d : Event). IsStep old d mid true) is (subst (IsStep old e mid) made h)

run_leads : (es : List Event) (old new : WorldState) (made : ℕ) (flags : List Bool) → IsUsable old.plan → AreStartable old.plan.slaves → Comes flags old → IsRun old es new made → Leads old es new made flags
run_leads [] old new made flags usable planned (FromLow r low) h =
    inr (IsLow (ap (λ (w : WorldState). is_up w.start) h.0 ∙ low) flags (subst (Rising flags) (sym h.0) r))
run_leads [] old new made flags usable planned (FromHigh r) h = inl (r.shows.started, ap (λ (w : WorldState). w.start) h.0)
run_leads (e ∷ es) old new made flags usable planned (FromLow r low) h =
    let mid = h.0 in
    let now : List Bool = if h.1 then flags_after old e flags else flags in
    let same : mid.plan ≡ old.plan = plan_stays old e mid h.1 h.3 in
    let rises : Rising now mid = step-rises flags old e mid h.1 planned r low h.3 in
    let good : IsUsable mid.plan = subst IsUsable (sym same) usable in
    let startable : AreStartable mid.plan.slaves = subst (λ (p : PlanState). AreStartable p.slaves) (sym same) planned in
    elim (cases_Bool (is_up mid.start)) as (λ _. Leads old (e ∷ es) new made flags) [
      | inl up ↦ (elim (run_leads es mid new h.2 now good startable (FromHigh (now_runs now mid good startable rises up)) h.4) as (λ _. Leads old (e ∷ es) new made flags) [
        | inl on ↦ inr (IsHigh (reached old e es mid new h.1 h.2 made flags low h.3 up rises h.4 on.1 h.5))
        | inr c ↦ inr (later old e es mid new h.1 h.2 made flags h.3 h.5 c)
      ])
      | inr still ↦ (elim (run_leads es mid new h.2 now good startable (FromLow rises still) h.4) as (λ _. Leads old (e ∷ es) new made flags) [
        | inl on ↦ absurd (both_ways _ still on.0)
        | inr c ↦ inr (later old e es mid new h.1 h.2 made flags h.3 h.5 c)
      ])
    ]
run_leads (e ∷ es) old new made flags usable planned (FromHigh r) h =
    let mid = h.0 in
    let now : List Bool = if h.1 then flags_after old e flags else flags in
    let same : mid.plan ≡ old.plan = plan_stays old e mid h.1 h.3 in
    let good : IsUsable mid.plan = subst IsUsable (sym same) usable in
    let startable : AreStartable mid.plan.slaves = subst (λ (p : PlanState). AreStartable p.slaves) (sym same) planned in
    elim (stays_or_stops old e mid h.1 r.shows.started h.3) as (λ _. Leads old (e ∷ es) new made flags) [
      | inl on ↦ (elim (run_leads es mid new h.2 now good startable (FromHigh (still_runs flags old e mid h.1 usable r h.3 on)) h.4) as (λ _. Leads old (e ∷ es) new made flags) [
        | inl more ↦ inl (r.shows.started, more.1 ∙ on)
        | inr c ↦ inr (later old e es mid new h.1 h.2 made flags h.3 h.5 c)
      ])
      | inr stop ↦
          let does : IsStep old Stop mid true = stop_step old e mid h.1 stop.0 stop.1 h.3 in
          let low : is_up mid.start ≡ false = ap (λ (w : WorldState). is_up w.start) (does.happens refl) ∙ stopped_low old.start old.master in
          (elim (run_leads es mid new h.2 now good startable (FromLow (subst (λ (fs : List Bool). Rising fs mid) (sym (stop_flags old e h.1 flags stop.0)) (now_rises flags old mid usable planned r does)) low) h.4) as (λ _. Leads old (e ∷ es) new made flags) [
            | inl on ↦ absurd (both_ways _ low on.0)
            | inr c ↦ inr (later old e es mid new h.1 h.2 made flags h.3 h.5 c)
          ])
    ]
  where
    stop_flags : (old : WorldState) (e : Event) (one : Bool) (flags : List Bool) → e ≡ Stop → (if one then flags_after old e flags else flags) ≡ flags
    stop_flags old e true flags is = ap (λ (d : Event). flags_after old d flags) is
    stop_flags old e false flags is = refl

pub course : (es : List Event) (old new : WorldState) (made : ℕ) (flags : List Bool) → IsUsable old.plan → AreStartable old.plan.slaves → Rising flags old → is_up old.start ≡ false → IsRun old es new made
    → Course old es new made flags
course es old new made flags usable planned r low h = elim (run_leads es old new made flags usable planned (FromLow r low) h) [
  | inl on ↦ absurd (both_ways _ low on.0)
  | inr c ↦ c
]
