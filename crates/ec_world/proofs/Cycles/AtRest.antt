-- A cycle of a world that is Ready, with no cycle open and no frame on its way: it can begin, and be closed.
use Rattle.ec_world.proofs.Words.{IsUnstopped, ℕ, zero, suc, ◌+◌, ◌-◌, ◌^◌, ◌<◌, ◌≤◌, ◌≡◌, nat_le, Bool, true, Option, Some, None, refl, sym, ◌∙◌, ap, subst, arith, List, [], ◌∷◌, ◌++◌, length, map, get_or, replicate, is_none, option_map, unwrap_or, and_from, lt-ltb, le-leb, length-map, if_true, Identity, Contents, PartPlan, Meaning, meaning, PlanState, plan_of, IsUsable, plan_sound, nones, OpenCycle, cycle_limit, Event, Begin, Close, Plain, PlainFrame, Cycle, unit_full, step, run, frame_at, progress_of, WorldState, is_up, flight_at, flight_progress, IsStep, Refines, CyclesRefine, IsRun, IsNew, plain_of, IsBegun, IsClosedAs, Says, rounds_of, IsAtRest, Rests, same_progress, none_some, some_same, all_none, cycle_begun, closing, is_some, if◌then◌else◌, length-append, nones-all, none_mapped}
use Rattle.ec_world.proofs.Refinement.StepsRefine.{runs_refine, runs_join}
use Rattle.ec_world.proofs.Cycles.InputsLaw.{inputs_law}
use Rattle.ec_world.proofs.Runs.Sizes.{run_same}
use Rattle.ec_world.proofs.Runs.Unstopped.{calm_run, full_calm}
use Rattle.ec_world.proofs.Cycles.RoundsGo.{Slots, at_way, empty, fresh, Between, AllMade, get_mapped, rounds_go, filled_fresh, run_made}
use Rattle.ec_world.proofs.Headline.LinkedBits.{MadeAt, made_at, Sees, sees}
use Rattle.ec_world.proofs.Headline.HeadlineLaw.{says}

-- ---- empty slots

get_none : (z k : ℕ) → get_or (empty z) k None ≡ None
get_none zero k = refl
get_none (suc z) zero = refl
get_none (suc z) (suc k) = get_none z k

pub get_nones : (y z k : ℕ) → get_or (empty y ++ ([] ++ empty z)) k None ≡ None
get_nones zero z k = get_none z k
get_nones (suc y) z zero = refl
get_nones (suc y) z (suc k) = get_nones y z k

no_cycle_shown : (plan : PlanState) (o : Option OpenCycle) (q : Option Cycle) → CyclesRefine plan o q → o ≡ None → q ≡ None
no_cycle_shown plan None None h e = refl
no_cycle_shown plan None (Some q) h e = absurd h
no_cycle_shown plan (Some c) q h e = absurd (none_some c (sym e))

-- ---- a world that is Ready, and free

-- a new world came by some events to w, which is Ready
pub record Comes (t : Contents) (identities : List Identity) (w : WorldState) : Type 0 where
  pub old : WorldState
  pub new : IsNew t identities old
  pub events : List Event
  pub made : ℕ
  pub reached : IsRun old events w made
  pub up : is_up w.start ≡ true

pub record IsFree (w : WorldState) : Type 0 where
  pub no_cycle : w.master.cycle ≡ None
  pub no_frame : (k : ℕ) → flight_at w k ≡ None
  pub numbers : w.master.next < cycle_limit

pub comes_of : (t : Contents) (ids : List Identity) (w : WorldState) → Rests t ids w → Comes t ids w
comes_of t ids w r = record { old = r.old; new = r.new; events = r.events; made = r.made; reached = r.reached; up = r.up }

pub free_of : (t : Contents) (w : WorldState) → IsAtRest t w → IsFree w
free_of t w r = record { no_cycle = r.no_cycle; no_frame = r.no_frame; numbers = r.numbers }

-- how many slots no frame of a cycle has
abbrev pub left_over : Contents → ℕ
left_over t = 64 - length (plan_of t).parts

-- what it shows, and a cycle that begins there
pub record Beginning (t : Contents) (w : WorldState) : Type 0 where
  pub p : Plain
  pub shown : Refines w p
  pub w_plan : w.plan ≡ plan_of t
  pub usable : IsUsable w.plan
  pub count : length p.slaves ≡ length t.slaves
  pub no_frame : (k : ℕ) → frame_at p k ≡ None
  pub begun : Plain
  pub is : begun ≡ cycle_begun (meaning w.plan) p
  pub begins : step (meaning w.plan) p Begin ≡ Some begun
  pub between : Between (length t.slaves) p.next 0 (length (plan_of t).parts) (left_over t) begun

module _ (t : Contents) (ids : List Identity) (w : WorldState) (o : Comes t ids w) (free : IsFree w) where
  abbrev s : Sees t o.old o.events w
  s = sees t ids o.old o.events w o.made o.new o.reached o.up

  abbrev m : Meaning
  m = meaning w.plan

  abbrev first : Plain
  first = plain_of s.ready

  abbrev p : Plain
  p = (run (meaning s.ready.plan) first s.after).plain

  many : length w.plan.slaves ≡ length t.slaves
  many = ap (λ (x : PlanState). length x.slaves) s.plan_kept ∙ (plan_sound t o.new.sound o.new.accepted).as_many

  abbrev N : ℕ
  N = length t.slaves

  abbrev K : ℕ
  K = length (plan_of t).parts

  parts : length m.parts ≡ K
  parts = length-map w.plan.parts (λ (k : PartPlan). k.unit) ∙ ap (λ (x : PlanState). length x.parts) s.plan_kept

  few : K ≤ 32
  few = let x = s.still_usable.few_parts in let y = ap (λ (z : PlanState). length z.parts) s.plan_kept in omega (arith, x, y)

  abbrev z : ℕ
  z = 64 - K

  -- slots
  slot_free : (k : ℕ) → frame_at p k ≡ None
  slot_free k = none_mapped progress_of (frame_at p k) (sym (same_progress w.slots p.slots k s.shown.progress) ∙ ap (option_map flight_progress) (free.no_frame k))

  as_many : length p.slots ≡ 64
  as_many =
      sym (length-map p.slots (λ o. option_map progress_of o)) ∙ (sym (ap length s.shown.progress) ∙ (length-map w.slots (λ o. option_map flight_progress o)
      ∙ ((run_same o.old o.events w o.made o.reached).slots ∙ ap (λ (x : WorldState). length x.slots) o.new.is)))

  all_free : p.slots ≡ replicate (length m.parts + z) None
  all_free = all_none p.slots slot_free ∙ ap (λ (y : ℕ). replicate y None) (let a = as_many in let b = parts in let c = few in omega (arith, a, b, c))

  -- the beginning
  abbrev B : Plain
  B = cycle_begun m p

  shut : p.cycle ≡ None
  shut = no_cycle_shown w.plan w.master.cycle p.cycle s.shown.cycle free.no_cycle

  begins : step m p Begin ≡ Some B
  begins = if_true _ _ _ (and_from (is_none p.cycle) _ (ap (λ o. is_none o) shut) (and_from (nat_le (length m.parts) (nones p.slots)) _
      (le-leb (length m.parts) (nones p.slots) (let a = ap (λ os. nones os) all_free in let b = nones-all PlainFrame (length m.parts + z) in omega (arith, a, b)))
      (lt-ltb p.next (2 ^ 64 - 1) (let a = free.numbers in let b = s.shown.next in omega (arith, a, b)))))

  between : Between N p.next 0 K z B
  between = record {
    slots = filled_fresh p.next 0 z (length m.parts + z) p.outputs m.parts p.slots all_free refl ∙ ap (λ (k : ℕ). fresh p.next 0 k ++ empty z) parts;
    cycle = record { number = p.next; kept = map (λ u. None) m.parts };
    is_open = refl;
    number_is = refl;
    count_is = s.shown.plain_count ∙ many;
  }

  pub beginning : Beginning t w
  beginning = record { p = p; shown = s.shown; w_plan = s.plan_kept; usable = s.still_usable; count = s.shown.plain_count ∙ many; no_frame = slot_free; begun = B; is = refl; begins = begins; between = between }

-- ---- what follows

pub is_begun : (t : Contents) (w : WorldState) (b : Beginning t w) → IsBegun (meaning w.plan) b.p b.begun
is_begun t w b = record { first = b.p; no_frame = b.no_frame; before = []; reached = refl; begins = b.begins }

-- its frames go round
abbrev pub rounds : Contents → List Event
rounds t = rounds_of (length t.slaves) 0 (length (plan_of t).parts)

pub going : (t : Contents) (w : WorldState) (b : Beginning t w) → AllMade (meaning w.plan) b.begun (rounds t) (Between (length t.slaves) b.p.next (0 + length (plan_of t).parts) 0 (left_over t))
going t w b = rounds_go (meaning w.plan) (length t.slaves) b.p.next (left_over t) (length (plan_of t).parts) 0 b.begun b.between

-- all of it is made, where the events up to its close are
pub whole_made : (t : Contents) (w : WorldState) (b : Beginning t w) (mid : List Event) (c : Cycle) → (run (meaning w.plan) b.begun mid).made ≡ length mid → (run (meaning w.plan) b.begun mid).plain.cycle ≡ Some c
    → (run (meaning w.plan) b.p (Begin ∷ (mid ++ (Close ∷ [])))).made ≡ length (Begin ∷ (mid ++ (Close ∷ [])))
whole_made t w b mid c made_mid open_mid =
    let m = meaning w.plan in
    let close : (run m (run m b.begun mid).plain (Close ∷ [])).made ≡ 1 = ap (λ (o : Option Cycle). (if is_some (option_map (closing m (run m b.begun mid).plain) o) then 1 else 0) + 0) open_mid in
    let rest : (run m b.begun (mid ++ (Close ∷ []))).made ≡ length (mid ++ (Close ∷ [])) = omega (arith, run_made m b.begun mid (Close ∷ []), length-append mid (Close ∷ []), close, made_mid) in
    ap (λ (o : Option Plain). (if is_some o then 1 else 0) + (run m (unwrap_or o b.p) (mid ++ (Close ∷ []))).made) b.begins ∙ (let z : 1 + (run m b.begun (mid ++ (Close ∷ []))).made ≡ length (Begin ∷ (mid ++ (Close ∷ []))) = omega (arith, rest) in z)

-- after some events that are made it is closed
pub record AtClose (t : Contents) (ids : List Identity) (w : WorldState) (b : Beginning t w) (mid : List Event) (c : Cycle) (v : WorldState) (count : ℕ) : Type 0 where
  pub all_made : count ≡ length (Begin ∷ (mid ++ (Close ∷ [])))
  pub at : WorldState
  pub comes : Comes t ids at
  pub shows : Refines at (run (meaning w.plan) b.begun mid).plain
  pub plan : at.plan ≡ w.plan
  pub step : IsStep at Close v true
  pub closed : IsClosedAs at c v

pub at_close : (t : Contents) (ids : List Identity) (w : WorldState) → Comes t ids w → (b : Beginning t w) (mid : List Event) (c : Cycle) → (run (meaning w.plan) b.begun mid).made ≡ length mid
    → (run (meaning w.plan) b.begun mid).plain.cycle ≡ Some c → (v : WorldState) (count : ℕ) → IsRun w (Begin ∷ (mid ++ (Close ∷ []))) v count → AtClose t ids w b mid c v count
at_close t ids w o b mid c made_mid open_mid v count run_on = record {
  all_made = (runs_refine w (Begin ∷ (mid ++ (Close ∷ []))) v count b.usable run_on).made_is p b.shown still ∙ whole_made t w b mid c made_mid open_mid;
  at = mc.made.at;
  comes = record {
    old = o.old;
    new = o.new;
    events = o.events ++ mc.made.before;
    made = o.made + mc.made.first;
    reached = runs_join o.old o.events w o.made mc.made.before mc.made.at mc.made.first o.reached mc.made.to_it;
    up = mc.at_shows.started;
  };
  shows = subst (Refines mc.made.at) P_is mc.at_shows;
  plan = mc.at_plan;
  step = step_on;
  closed = inputs_law mc.made.at P c v (subst IsUsable (sym mc.at_plan) b.usable) mc.at_shows opened step_on;
}
  where
    m : Meaning
    m = meaning w.plan

    p : Plain
    p = b.p

    -- each of its events is made, so none is a stop
    still : IsUnstopped w v
    still = calm_run (Begin ∷ (mid ++ (Close ∷ []))) w v count (full_calm m p (Begin ∷ (mid ++ (Close ∷ []))) (whole_made t w b mid c made_mid open_mid)) b.shown.started run_on

    P : Plain
    P = (run m p (Begin ∷ mid)).plain

    P_is : P ≡ (run m b.begun mid).plain
    P_is = ap (λ q. (run m (unwrap_or q p) mid).plain) b.begins

    opened : P.cycle ≡ Some c
    opened = ap (λ (x : Plain). x.cycle) P_is ∙ open_mid

    mc : MadeAt m w p (Begin ∷ (mid ++ (Close ∷ []))) (Begin ∷ mid) Close [] (closing m P c) v
    mc = made_at w p (Begin ∷ (mid ++ (Close ∷ []))) v count (Begin ∷ mid) Close [] (closing m P c) b.usable b.shown run_on still refl (ap (option_map (closing m P)) opened)

    v_is : v ≡ mc.made.next
    v_is = (subst (λ (xs : List Event). IsRun mc.made.next xs v mc.made.rest) mc.behind_is mc.made.onward).0

    step_on : IsStep mc.made.at Close v true
    step_on = subst (λ (x : WorldState). IsStep mc.made.at Close x true) (sym v_is) mc.made.step

-- what the report says of a unit
pub told_of : (t : Contents) (ids : List Identity) (w : WorldState) (b : Beginning t w) (mid : List Event) (c : Cycle) (v : WorldState) (count : ℕ) (a : AtClose t ids w b mid c v count)
    → (u : ℕ) (is : Bool) → unit_full (meaning w.plan) c u ≡ is → Says a.closed.report u is
told_of t ids w b mid c v count a u is e =
    says (unit_full (meaning a.at.plan) c) a.closed.report (meaning a.at.plan).units u is a.closed.units a.closed.says (ap (λ (x : PlanState). unit_full (meaning x) c u) a.plan ∙ e)

-- ---- its frames

get_fresh : (n j count z k : ℕ) → k < count → get_or (fresh n j count ++ empty z) k None ≡ Some (at_way n (j + k) 0)
get_fresh n j zero z k l = absurd (omega (arith, l))
get_fresh n j (suc count) z zero l = let e : j ≡ j + 0 = omega arith in ap (λ (x : ℕ). Some (at_way n x 0)) e
get_fresh n j (suc count) z (suc k) l = let e : j + 1 + k ≡ j + suc k = omega arith in get_fresh n (j + 1) count z k (omega (arith, l)) ∙ ap (λ (x : ℕ). Some (at_way n x 0)) e

-- the frame of part k, in slot k
pub record FrameOf (n k : ℕ) (q : Plain) : Type 0 where
  pub frame : PlainFrame
  pub there : frame_at q k ≡ Some frame
  pub way : progress_of frame ≡ at_way n k 0

pub frame_of : (t : Contents) (w : WorldState) (b : Beginning t w) (k : ℕ) → k < length (plan_of t).parts → FrameOf b.p.next k b.begun
frame_of t w b k l = by (frame_at b.begun k) refl
  where
    at : option_map progress_of (frame_at b.begun k) ≡ Some (at_way b.p.next k 0)
    at = sym (get_mapped b.begun.slots k) ∙ (ap (λ (os : Slots). get_or os k None) b.between.slots ∙ (get_fresh b.p.next 0 (length (plan_of t).parts) (left_over t) k l
        ∙ ap (λ (x : ℕ). Some (at_way b.p.next x 0)) (let e : 0 + k ≡ k = omega arith in e)))

    by : (x : Option PlainFrame) → frame_at b.begun k ≡ x → FrameOf b.p.next k b.begun
    by None e = absurd (none_some _ (sym (ap (option_map progress_of) e) ∙ at))
    by (Some f) e = record { frame = f; there = e; way = some_same _ _ (sym (ap (option_map progress_of) e) ∙ at) }
