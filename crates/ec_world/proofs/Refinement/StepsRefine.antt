-- One event, and runs of events.
use Rattle.ec_world.proofs.Words.{ℕ, ◌<◌, ◌≡◌, ◌&&◌, ◌||◌, not, Bool, true, false, Option, Some, None, refl, sym, ◌∙◌, ap, subst, inl, inr, length, is_some, if◌then◌else◌, unwrap_or, ◌+◌, ◌++◌, arith, List, [], ◌∷◌, cases_Bool, cases_lt, both_ways, and_parts, and_left, listed, if_true, power_on, slave_at, meaning, IsUsable, Event, StartNext, Set, Begin, Pass, Lose, Return, Close, Serve, AppPut, AppGet, Fault, ResetSlave, Plain, PlainSlave, step, plain_slave, is_working, failing, restarting, at_slave, run, WorldState, awaits, ByStart, Returns, Closes, can_start, can_happen, Happens, is_slave, slave_of, StartReturns, GivesUp, with_slave, IsStep, is_up, ready_with, resumed, served, faulted, Refines, StepsRefine, IsRun, RunsRefine, RunsJoin, PlanState, SlavePlan, Phase, Failed, StartState, asked, begun, IsStartTaken, plans_stay, MasterState, readied, master_plan, AreOfPlan, IsAnswered, IsTakenIn, IsHandedIn, HasSamePlan, Feed, none_if, some_guarded, false≢true, ◌⊎◌, Stop}
use Rattle.ec_al.specs.Al as al
use Rattle.ec_world.specs.Plain as plain
use Rattle.ec_world.proofs.Runs.Unstopped.{is_calm, stop_is_seen, still_next}
use Rattle.ec_world.proofs.Refinement.FrameEvents.{lose_can, lose_shows, pass_made, pass_shows}
use Rattle.ec_world.proofs.Refinement.MasterEvents.{set_can, set_shows, begin_can, begin_shows, close_can, close_shows}
use Rattle.ec_world.proofs.Refinement.Return.{return_made, return_shows}
use Rattle.ec_world.proofs.Refinement.ApplicationEvents.{slave_changed, at_there, at_none, is_there, is_gone, both_let, here_of, serve_shows, reset_shows, fault_let, fault_as, put_can, put_shows_both, get_can, get_shows_both}

same_plan : (old : WorldState) (event : Event) (new : WorldState) → awaits old.start ≡ false → can_start old ≡ false → can_happen old event ≡ true → Happens old event new → new.plan ≡ old.plan
same_plan old StartNext new a e c h = absurd (both_ways _ e c)
same_plan old Begin new a e c h = ap (λ (w : WorldState). w.plan) h.is
same_plan old (Pass k) new a e c h = ap (λ (w : WorldState). w.plan) h.is
same_plan old (Return k) new a e c h = let r : Returns old k new = subst (λ (b : Bool). ByStart b (StartReturns old k new) (Returns old k new)) a h in ap (λ (w : WorldState). w.plan) r.is
same_plan old Close new a e c h = let r : Closes old new = subst (λ (b : Bool). ByStart b (GivesUp old new) (Closes old new)) a h in ap (λ (w : WorldState). w.plan) r.is
same_plan old (AppPut s i x) new a e c h = ap (λ (w : WorldState). w.plan) h.is
same_plan old (AppGet s i) new a e c h = ap (λ (w : WorldState). w.plan) h.is
same_plan old _ new a e c h = ap (λ (w : WorldState). w.plan) h

-- ---- events at any slave

slave_let : (w : WorldState) (p : Plain) (t : ℕ) (f : PlainSlave → Plain) → Refines w p → is_slave w t ≡ is_some (at_slave p t (λ q. Some (f q)))
slave_let w p t f s = elim (cases_lt t (length w.plan.slaves)) [
  | inl l ↦ is_there w p t s l ∙ sym (ap is_some (at_there w p t (λ q. Some (f q)) s l))
  | inr l ↦ is_gone w p t s l ∙ sym (ap is_some (at_none w p t (λ q. Some (f q)) s l))
]

slave_here : (w : WorldState) (p : Plain) (t : ℕ) → Refines w p → is_slave w t ≡ true → t < length w.plan.slaves
slave_here w p t s e = elim (cases_lt t (length w.plan.slaves)) [ inl l ↦ l | inr l ↦ absurd (both_ways _ (is_gone w p t s l) e) ]

abbrev fault_plain : Plain → ℕ → PlainSlave → Option Plain
fault_plain p t q = if is_working q.health then Some (plain.with_slave p t (failing q)) else None

fault_can : (w : WorldState) (p : Plain) (t : ℕ) → IsUsable w.plan → Refines w p → (is_slave w t && al.is_operational (slave_of w t).al.state) ≡ is_some (at_slave p t (fault_plain p t))
fault_can w p t sound s = both_let w p t (al.is_operational (slave_of w t).al.state) (fault_plain p t) s (λ l.
    let q = plain_slave p t in
    fault_let t (slave_at w.plan t) (slave_of w t) q (listed w.plan sound t l) q.health (s.slaves t l) ∙ some_guarded (is_working q.health) (plain.with_slave p t (failing q)))

fault_shows : (w : WorldState) (p : Plain) (t : ℕ) → IsUsable w.plan → Refines w p → (is_slave w t && al.is_operational (slave_of w t).al.state) ≡ true
    → Refines (with_slave w t (faulted (slave_of w t))) (unwrap_or (at_slave p t (fault_plain p t)) p)
fault_shows w p t sound s can =
    let l = here_of w p t (al.is_operational (slave_of w t).al.state) s can in
    let q = plain_slave p t in
    let a = slave_of w t in
    let pl = slave_at w.plan t in
    let working : is_working q.health ≡ true = sym (fault_let t pl a q (listed w.plan sound t l) q.health (s.slaves t l)) ∙ (and_parts (is_slave w t) (al.is_operational a.al.state) can).1 in
    subst (λ (o : Option Plain). Refines (with_slave w t (faulted a)) (unwrap_or o p)) (sym (at_there w p t (fault_plain p t) s l ∙ if_true _ _ _ working))
    (slave_changed w p t (faulted a) (failing q) s (fault_as t pl a q (listed w.plan sound t l) q.health (s.slaves t l) working) l)

-- ---- any event

no_start : (w : WorldState) (p : Plain) → Refines w p → can_start w ≡ false
no_start w p s = and_left _ _ (ap not s.started)

close_let : (w : WorldState) (p : Plain) → Refines w p → (is_some w.master.cycle || awaits w.start) ≡ is_some w.master.cycle
close_let w p s = ap (λ b. is_some w.master.cycle || b) s.no_start ∙ (elim (is_some w.master.cycle) as (λ b. (b || false) ≡ b) [ true ↦ refl | false ↦ refl ])

pub event_can : (w : WorldState) (p : Plain) (e : Event) → is_calm e ≡ true → IsUsable w.plan → Refines w p → can_happen w e ≡ is_some (step (meaning w.plan) p e)
event_can w p StartNext calm sound s = no_start w p s
event_can w p (Set v x) calm sound s = set_can w p v x s
event_can w p Begin calm sound s = begin_can w p s
event_can w p (Pass k) calm sound s = pass_made w p k s
event_can w p (Lose k) calm sound s = lose_can w p k s
event_can w p (Return k) calm sound s = return_made w p k s
event_can w p Close calm sound s = close_let w p s ∙ close_can w p s
event_can w p (Serve t) calm sound s = slave_let w p t (λ q. p) s
event_can w p (AppPut t i x) calm sound s = put_can w p t i x sound s
event_can w p (AppGet t i) calm sound s = get_can w p t i sound s
event_can w p (Fault t) calm sound s = fault_can w p t sound s
event_can w p (ResetSlave t) calm sound s = slave_let w p t (λ q. plain.with_slave p t (restarting q)) s
event_can w p Stop calm sound s = absurd (false≢true calm)

pub event_shows : (w : WorldState) (p : Plain) (e : Event) (w2 : WorldState) → is_calm e ≡ true → IsUsable w.plan → Refines w p
    → can_happen w e ≡ true → Happens w e w2 → Refines w2 (unwrap_or (step (meaning w.plan) p e) p)
event_shows w p StartNext w2 calm sound s can h = absurd (both_ways _ (no_start w p s) can)
event_shows w p (Set v x) w2 calm sound s can h = subst (λ (y : WorldState). Refines y (unwrap_or (step (meaning w.plan) p (Set v x)) p)) (sym h) (set_shows w p v x s can)
event_shows w p Begin w2 calm sound s can h = begin_shows w p w2 sound s can h
event_shows w p (Pass k) w2 calm sound s can h = pass_shows w p k w2 sound s can h
event_shows w p (Lose k) w2 calm sound s can h = subst (λ (y : WorldState). Refines y (unwrap_or (step (meaning w.plan) p (Lose k)) p)) (sym h) (lose_shows w p k s can)
event_shows w p (Return k) w2 calm sound s can h = return_shows w p k w2 sound s can (subst (λ (b : Bool). ByStart b (StartReturns w k w2) (Returns w k w2)) s.no_start h)
event_shows w p Close w2 calm sound s can h = close_shows w p w2 sound s (subst (λ (b : Bool). ByStart b (GivesUp w w2) (Closes w w2)) s.no_start h)
event_shows w p (Serve t) w2 calm sound s can h =
    let l = slave_here w p t s can in
    subst (λ (y : WorldState). Refines y (unwrap_or (step (meaning w.plan) p (Serve t)) p)) (sym h)
    (subst (λ (o : Option Plain). Refines (with_slave w t (served (slave_of w t))) (unwrap_or o p)) (sym (at_there w p t (λ q. Some p) s l)) (serve_shows w p t s l))
event_shows w p (AppPut t i x) w2 calm sound s can h = put_shows_both w p t i x w2 sound s can h
event_shows w p (AppGet t i) w2 calm sound s can h = get_shows_both w p t i w2 sound s can h
event_shows w p (Fault t) w2 calm sound s can h = subst (λ (y : WorldState). Refines y (unwrap_or (step (meaning w.plan) p (Fault t)) p)) (sym h) (fault_shows w p t sound s can)
event_shows w p (ResetSlave t) w2 calm sound s can h =
    let l = slave_here w p t s can in
    subst (λ (y : WorldState). Refines y (unwrap_or (step (meaning w.plan) p (ResetSlave t)) p)) (sym h)
    (subst (λ (o : Option Plain). Refines (with_slave w t (power_on (slave_of w t).kind (slave_of w t).identity)) (unwrap_or o p)) (sym (at_there w p t (λ q. Some (plain.with_slave p t (restarting q))) s l)) (reset_shows w p t s l))
event_shows w p Stop w2 calm sound s can h = absurd (false≢true calm)

-- it is no stop, or a stop that wasn't made
calm_or_refused : (old : WorldState) (e : Event) (new : WorldState) (made : Bool) → is_up old.start ≡ true → IsStep old e new made → new.start ≡ old.start → (is_calm e ≡ true) ⊎ ((e ≡ Stop) × (made ≡ false))
calm_or_refused old Stop new true up h same = absurd (stop_is_seen old new up h same)
calm_or_refused old Stop new false up h same = inr (refl, refl)
calm_or_refused old _ new made up h same = inl refl

made_as : (old : WorldState) (e : Event) (new : WorldState) (made : Bool) (p : Plain) → IsUsable old.plan → Refines old p → IsStep old e new made → new.start ≡ old.start → made ≡ is_some (step (meaning old.plan) p e)
made_as old e new made p sound s h same = elim (calm_or_refused old e new made s.started h same) [
  | inl calm ↦ h.can ∙ event_can old p e calm sound s
  | inr stop ↦ stop.1 ∙ ap (λ (d : Event). is_some (step (meaning old.plan) p d)) (sym stop.0)
]

-- one event
pub steps_refine : StepsRefine
steps_refine old event new made sound h = record {
  same_plan = λ p s. elim (cases_Bool made) [
    | inl on ↦ same_plan old event new s.no_start (no_start old p s) (sym h.can ∙ on) (h.happens on)
    | inr off ↦ ap (λ (w : WorldState). w.plan) (h.refused off)
  ];
  made_is = λ p s same. made_as old event new made p sound s h same;
  shown = λ p s same. elim (cases_Bool made) [
    | inl on ↦ elim (calm_or_refused old event new made s.started h same) [
      | inl calm ↦ event_shows old p event new calm sound s (sym h.can ∙ on) (h.happens on)
      | inr stop ↦ absurd (both_ways _ stop.1 on)
    ]
    | inr off ↦
        let none : is_some (step (meaning old.plan) p event) ≡ false = sym (made_as old event new made p sound s h same) ∙ off in
        subst (λ (w : WorldState). Refines w (unwrap_or (step (meaning old.plan) p event) p)) (sym (h.refused off))
        (subst (λ (q : Plain). Refines old q) (sym (none_if (step (meaning old.plan) p event) p none)) s)
  ];
}

-- ---- runs of events, by induction over the events

run_shows : (old : WorldState) (events : List Event) (new : WorldState) (made : ℕ) → IsUsable old.plan
    → IsRun old events new made → (p : Plain) → Refines old p → new.start ≡ old.start → Refines new (run (meaning old.plan) p events).plain × (made ≡ (run (meaning old.plan) p events).made)
run_shows old [] new made sound h p s still = (subst (λ (w : WorldState). Refines w p) (sym h.0) s, h.1)
run_shows old (e ∷ es) new made sound h p s still =
    let mid = h.0 in
    let here : mid.start ≡ old.start = still_next old e mid h.1 es new h.2 s.started h.3 h.4 still in
    let one = steps_refine old e mid h.1 sound h.3 in
    let same : mid.plan ≡ old.plan = one.same_plan p s in
    let p2 = unwrap_or (step (meaning old.plan) p e) p in
    let rest = run_shows mid es new h.2 (subst (λ (x : PlanState). IsUsable x) (sym same) sound) h.4 p2 (one.shown p s here) (still ∙ sym here) in (
      subst (λ (x : PlanState). Refines new (run (meaning x) p2 es).plain) same rest.0,
      h.5 ∙ (ap (λ b. (if b then 1 else 0) + h.2) (one.made_is p s here) ∙ ap (λ n. (if is_some (step (meaning old.plan) p e) then 1 else 0) + n) (rest.1 ∙ ap (λ x. (run (meaning x) p2 es).made) same)),
    )

pub runs_refine : RunsRefine
runs_refine old events new made sound h = record {
  shown = λ p s still. (run_shows old events new made sound h p s still).0;
  made_is = λ p s still. (run_shows old events new made sound h p s still).1;
}

-- a run with one step more, for a loop over the events
pub run_more : (old : WorldState) (events : List Event) (mid : WorldState) (made : ℕ) (e : Event) (new : WorldState) (one : Bool)
    → IsRun old events mid made → IsStep mid e new one → IsRun old (events ++ (e ∷ [])) new (made + (if one then 1 else 0))
run_more old [] mid made e new one h step =
    let z : made + (if one then 1 else 0) ≡ (if one then 1 else 0) + 0 = let y = h.1 in omega arith in
    (new, one, 0, subst (λ (w : WorldState). IsStep w e new one) h.0 step, (refl, refl), z)
run_more old (d ∷ events) mid made e new one h step =
    let z : made + (if one then 1 else 0) ≡ (if h.1 then 1 else 0) + (h.2 + (if one then 1 else 0)) = let y = h.5 in omega arith in
    (h.0, h.1, h.2 + (if one then 1 else 0), h.3, run_more h.0 events mid h.2 e new one h.4 step, z)

pub runs_join : RunsJoin
runs_join old [] mid made second new more h g =
    let z : more ≡ made + more = let y = h.1 in omega arith in
    subst (λ (n : ℕ). IsRun old second new n) z (subst (λ (w : WorldState). IsRun w second new more) h.0 g)
runs_join old (e ∷ es) mid made second new more h g =
    let z : made + more ≡ (if h.1 then 1 else 0) + (h.2 + more) = let y = h.5 in omega arith in
    (h.0, h.1, h.2 + more, h.3, runs_join h.0 es mid h.2 second new more h.4 g, z)

-- ---- the start-up and the master of a world stay of its plan

pub begun_plan : (ps : List SlavePlan) (fs : List Feed) (number : ℕ) → (begun ps fs number).plan ≡ ps
unfolding begun
begun_plan ps fs number = refl

pub begun_feeds : (ps : List SlavePlan) (fs : List Feed) (number : ℕ) → (begun ps fs number).feeds ≡ fs
unfolding begun
begun_feeds ps fs number = refl

pub same_start : (s : StartState) → HasSamePlan s s
same_start s = record { plan = refl; feeds = refl }

pub resumed_plan : (s : StartState) (p : Phase) → HasSamePlan s (resumed s p)
resumed_plan s (Failed failure) = record { plan = begun_plan s.plan s.feeds s.next; feeds = begun_feeds s.plan s.feeds s.next }
resumed_plan s _ = same_start s

pub taken_plan : (s t : StartState) (payload : List ℕ) (is_accepted : Bool) → IsStartTaken s payload is_accepted t → HasSamePlan s t
taken_plan s t payload is_accepted h = (plans_stay s).take_keeps payload is_accepted t h

ready_plan : (m : MasterState) (s : StartState) → (ready_with m s).plan ≡ m.plan
ready_plan m s = elim (is_up s) as (λ b. (let n : MasterState = if b then readied m s.next else m in n.plan) ≡ m.plan) [ true ↦ refl | false ↦ refl ]

-- whoever a payload is handed in to
pub handed_plans : (plan : PlanState) (s t : StartState) (m n : MasterState) (payload : List ℕ) → AreOfPlan plan s m → IsHandedIn s m payload t n → AreOfPlan plan t n
handed_plans plan s t m n payload of h = go (awaits s) h
  where
    go : (b : Bool) → ByStart b (IsAnswered s m payload t n) (IsTakenIn s m payload t n) → AreOfPlan plan t n
    go true x = record {
      usable = of.usable;
      start = (taken_plan s t payload x.is_accepted x.start).plan ∙ of.start;
      feeds = (taken_plan s t payload x.is_accepted x.start).feeds ∙ of.feeds;
      master = ap (λ (y : MasterState). y.plan) x.master ∙ (ready_plan m t ∙ of.master);
    }
    go false x = record {
      usable = of.usable;
      start = ap (λ (y : StartState). y.plan) x.start ∙ of.start;
      feeds = ap (λ (y : StartState). y.feeds) x.start ∙ of.feeds;
      master = master_plan m n payload x.is_accepted x.master ∙ of.master;
    }

pub asked_plan : (s : StartState) → HasSamePlan s (asked s)
asked_plan s = (plans_stay s).next_keeps
