-- What lasts of slaves, whatever happens in a world: they stay of their types, and fit.
use Rattle.ec_world.proofs.Words.{ℕ, ◌<◌, ◌≡◌, Bool, true, false, Option, Some, refl, sym, ◌∙◌, ap, subst, inl, inr, List, [], ◌∷◌, length, get_or, set, unwrap_or, length-set, and_parts, State, Op, Datagram, SlaveKind, SlaveState, slave_met, passes, input_put, output_got, output_taken, Got, served, faulted, power_on, IsFit, SlavePlan, kind_at, plan_at, IsOfKind, IsGenuine, AreGenuine, stays, Event, StartNext, Begin, Pass, Return, Close, Set, Lose, Serve, AppPut, AppGet, Fault, ResetSlave as Reset, Stop, WorldState, no_slave, slave_of, is_slave, awaits, can_happen, Happens, IsStep, IsRun, ByStart, StartReturns, Returns, GivesUp, Closes}
use Rattle.ec_al.specs.Al as al
use Rattle.ec_bringup.specs.Stages.{Before}
use Rattle.ec_bringup.specs.Dictionaries.{sizes_of}
use Rattle.ec_bringup.specs.Standing.{Stands}
use Rattle.ec_bringup.specs.Keeping.{StaysStanding}
use Rattle.ec_slave.specs.Interface.{Assignment, all_assigned, is_missing}
use Rattle.ec_slave.proofs.Always.DatagramsKeepTheInside.{inside_kept}
use Rattle.ec_bringup.proofs.OneSlave.SlaveLaw.{stays-standing}
use Rattle.ec_world.proofs.SlotLaws.Clearance.{at_set}
use Rattle.ec_world.proofs.StartUp.Rising.{stays_fit, on_fit}
use Rattle.ec_world.proofs.Runs.OneOutcomeLaw.{HoldsFrames, step_holds}

-- ---- what one slave keeps, by its number

pub record Lasts (P : ℕ → SlaveState → Type 0) : Type 0 where
  pub meets : (k : ℕ) (s : SlaveState) (ds : List Datagram) → P k s → P k (passes s ds).slave
  pub serves : (k : ℕ) (s : SlaveState) → P k s → P k (served s)
  pub puts : (k : ℕ) (s : SlaveState) (i x : ℕ) (t : SlaveState) → input_put s i x ≡ Some t → P k s → P k t
  pub gets : (k : ℕ) (s : SlaveState) (i : ℕ) (g : Got) → output_got s i ≡ Some g → P k s → P k (output_taken s (Some g))
  pub faults : (k : ℕ) (s : SlaveState) → s.al.state ≡ Op → P k s → P k (faulted s)
  pub resets : (k : ℕ) (s : SlaveState) → P k s → P k (power_on s.kind s.identity)

-- its type
abbrev pub OfKinds : List SlavePlan → ℕ → SlaveState → Type 0
OfKinds ps k s = k < length ps → IsOfKind (kind_at ps k) s

stands : (kind : SlaveKind) (s : SlaveState) → IsOfKind kind s → Stands kind 0 Before false s
stands kind s h = record { slave = h; at = inl tt }

keeps : (kind : SlaveKind) (s : SlaveState) → IsOfKind kind s → StaysStanding kind 0 Before false s
keeps kind s h = stays-standing kind 0 Before false s (stands kind s h)

-- any datagram leaves what its type is known by
kind_met : (kind : SlaveKind) (s : SlaveState) (d : Datagram) → IsOfKind kind s → IsOfKind kind (slave_met s d)
kind_met kind s d h =
    let k = inside_kept s d in
    record {
      kind_is = k.kind ∙ h.kind_is;
      room = k.room ∙ h.room;
      four = k.count ∙ h.four;
      outs = ap (λ (a : Assignment). length a.slots) k.outs ∙ h.outs;
      ins = ap (λ (a : Assignment). length a.slots) k.ins ∙ h.ins;
      fixed = λ e. let f = h.fixed e in record {
        outs = k.outs ∙ (f.outs ∙ ap (λ (x : SlaveKind). all_assigned x.outputs) (sym k.kind));
        ins = k.ins ∙ (f.ins ∙ ap (λ (x : SlaveKind). all_assigned x.inputs) (sym k.kind));
      };
      sizes = ap sizes_of k.values ∙ h.sizes;
      unlocked_in_init = λ e n l. k.locked n ∙ h.unlocked_in_init (sym k.state ∙ e) n l;
      missing = λ a e. k.missing a (ap (λ (x : SlaveKind). is_missing x.hardware a) h.kind_is ∙ e) ∙ h.missing a e;
    }

kind_passed : (kind : SlaveKind) (ds : List Datagram) (s : SlaveState) → IsOfKind kind s → IsOfKind kind (passes s ds).slave
kind_passed kind [] s h = h
kind_passed kind (d ∷ ds) s h = kind_passed kind ds (slave_met s d) (kind_met kind s d h)

pub kinds_last : (ps : List SlavePlan) → Lasts (OfKinds ps)
kinds_last ps = record {
  meets = λ k s ds h l. kind_passed (kind_at ps k) ds s (h l);
  serves = λ k s h l. (keeps (kind_at ps k) s (h l)).serves.slave;
  puts = λ k s i x t put h l. subst (IsOfKind (kind_at ps k)) (ap (λ (o : Option SlaveState). unwrap_or o s) put) ((keeps (kind_at ps k) s (h l)).puts i x).slave;
  gets = λ k s i g got h l. subst (λ (o : Option Got). IsOfKind (kind_at ps k) (output_taken s o)) got ((keeps (kind_at ps k) s (h l)).gets i).slave;
  faults = λ k s op h l. ((keeps (kind_at ps k) s (h l)).faults op).slave;
  resets = λ k s h l. (keeps (kind_at ps k) s (h l)).resets.slave;
}

-- that it is fit
abbrev pub Fit : ℕ → SlaveState → Type 0
Fit k s = IsFit s

fit_passed : (ds : List Datagram) (s : SlaveState) → IsFit s → IsFit (passes s ds).slave
fit_passed [] s h = h
fit_passed (d ∷ ds) s h = fit_passed ds (slave_met s d) ((stays_fit s h).met d)

pub fits_last : Lasts Fit
fits_last = record {
  meets = λ k s ds h. fit_passed ds s h;
  serves = λ k s h. (stays_fit s h).served;
  puts = λ k s i x t put h. (stays_fit s h).put i x t put;
  gets = λ k s i g got h. subst (λ (o : Option Got). IsFit (output_taken s o)) got ((stays_fit s h).taken i);
  faults = λ k s op h. (stays_fit s h).faulted;
  resets = λ k s h. on_fit s.kind s.identity;
}

-- that it is a device of its type
abbrev pub Genuine : List SlavePlan → ℕ → SlaveState → Type 0
Genuine ps k s = k < length ps → IsGenuine (plan_at ps k).kind s

pub devices_last : (ps : List SlavePlan) → Lasts (Genuine ps)
devices_last ps = record {
  meets = λ k s ds h l. (stays (plan_at ps k).kind s (h l)).passes ds;
  serves = λ k s h l. (stays (plan_at ps k).kind s (h l)).serves;
  puts = λ k s i x t put h l. subst (IsGenuine (plan_at ps k).kind) (ap (λ (o : Option SlaveState). unwrap_or o s) put) ((stays (plan_at ps k).kind s (h l)).puts i x);
  gets = λ k s i g got h l. subst (λ (o : Option Got). IsGenuine (plan_at ps k).kind (output_taken s o)) got ((stays (plan_at ps k).kind s (h l)).gets i);
  faults = λ k s op h l. (stays (plan_at ps k).kind s (h l)).faults;
  resets = λ k s h l. (stays (plan_at ps k).kind s (h l)).resets;
}

-- ---- an event

abbrev pub Each : (ℕ → SlaveState → Type 0) → List SlaveState → Type 0
Each P ss = (k : ℕ) → P k (get_or ss k no_slave)

-- as many slaves as before, and each keeps what lasts
pub record Last (P : ℕ → SlaveState → Type 0) (w v : WorldState) : Type 0 where
  pub count : length v.slaves ≡ length w.slaves
  pub each : Each P v.slaves

set_one : (P : ℕ → SlaveState → Type 0) (ss : List SlaveState) (j : ℕ) (t : SlaveState) → Each P ss → P j t → Each P (set ss j t)
set_one P ss j t h p k = elim (at_set ss j k t no_slave) [
  | inl old ↦ subst (P k) (sym old) (h k)
  | inr new ↦ subst (λ (n : ℕ). P n (get_or (set ss j t) k no_slave)) (sym new.0) (subst (P j) (sym new.1) p)
]

in_op : (s : State) → al.is_operational s ≡ true → s ≡ Op
in_op Op e = refl
in_op _ e = absurd (let z : false ≡ true = e in cc)

module _ (P : ℕ → SlaveState → Type 0) (lasts : Lasts P) (w : WorldState) (holds : HoldsFrames w) (h : Each P w.slaves) where
  same : (v : WorldState) → v.slaves ≡ w.slaves → Last P w v
  same v e = record { count = ap length e; each = subst (Each P) (sym e) h }

  one : (v : WorldState) (j : ℕ) (t : SlaveState) → v.slaves ≡ set w.slaves j t → P j t → Last P w v
  one v j t e p = record { count = ap length e ∙ length-set w.slaves j t; each = subst (Each P) (sym e) (set_one P w.slaves j t h p) }

  event_lasts : (e : Event) (v : WorldState) → can_happen w e ≡ true → Happens w e v → Last P w v
  event_lasts StartNext v can x = same v (ap (λ (y : WorldState). y.slaves) x.is)
  event_lasts (Set n value) v can x = same v (ap (λ (y : WorldState). y.slaves) x)
  event_lasts Begin v can x = same v (ap (λ (y : WorldState). y.slaves) x.is)
  event_lasts (Pass k) v can x =
      let p = holds k x.flight x.there in
      one v x.flight.passed (passes (slave_of w x.flight.passed) p.0.datagrams).slave (x.passed.slaves p.0 p.1) (lasts.meets x.flight.passed (slave_of w x.flight.passed) p.0.datagrams (h x.flight.passed))
  event_lasts (Lose k) v can x = same v (ap (λ (y : WorldState). y.slaves) x)
  event_lasts (Return k) v can x = by (awaits w.start) x
    where
      by : (b : Bool) → ByStart b (StartReturns w k v) (Returns w k v) → Last P w v
      by true q = same v (ap (λ (y : WorldState). y.slaves) q.is)
      by false q = same v (ap (λ (y : WorldState). y.slaves) q.is)
  event_lasts Close v can x = by (awaits w.start) x
    where
      by : (b : Bool) → ByStart b (GivesUp w v) (Closes w v) → Last P w v
      by true q = same v (ap (λ (y : WorldState). y.slaves) q)
      by false q = same v (ap (λ (y : WorldState). y.slaves) q.is)
  event_lasts (Serve k) v can x = one v k (served (slave_of w k)) (ap (λ (y : WorldState). y.slaves) x) (lasts.serves k (slave_of w k) (h k))
  event_lasts (AppPut k i byte) v can x = one v k x.slave (ap (λ (y : WorldState). y.slaves) x.is) (lasts.puts k (slave_of w k) i byte x.slave x.put (h k))
  event_lasts (AppGet k i) v can x = one v k (output_taken (slave_of w k) (Some x.got)) (ap (λ (y : WorldState). y.slaves) x.is) (lasts.gets k (slave_of w k) i x.got x.read (h k))
  event_lasts (Fault k) v can x =
      one v k (faulted (slave_of w k)) (ap (λ (y : WorldState). y.slaves) x) (lasts.faults k (slave_of w k) (in_op (slave_of w k).al.state (and_parts (is_slave w k) _ can).1) (h k))
  event_lasts (Reset k) v can x = one v k (power_on (slave_of w k).kind (slave_of w k).identity) (ap (λ (y : WorldState). y.slaves) x) (lasts.resets k (slave_of w k) (h k))
  event_lasts Stop v can x = same v (ap (λ (y : WorldState). y.slaves) x)

pub step_lasts : (P : ℕ → SlaveState → Type 0) → Lasts P → (w : WorldState) (e : Event) (v : WorldState) (one : Bool) → HoldsFrames w → Each P w.slaves → IsStep w e v one → Last P w v
step_lasts P lasts w e v true holds h x = event_lasts P lasts w holds h e v (sym x.can) (x.happens refl)
step_lasts P lasts w e v false holds h x = same P lasts w holds h v (ap (λ (y : WorldState). y.slaves) (x.refused refl))

pub run_lasts : (P : ℕ → SlaveState → Type 0) → Lasts P → (es : List Event) (w v : WorldState) (made : ℕ) → HoldsFrames w → Each P w.slaves → IsRun w es v made → Last P w v
run_lasts P lasts [] w v made holds h x = same P lasts w holds h v (ap (λ (y : WorldState). y.slaves) x.0)
run_lasts P lasts (e ∷ es) w v made holds h x =
    let one = step_lasts P lasts w e x.0 x.1 holds h x.3 in
    let more = run_lasts P lasts es x.0 v x.2 (step_holds w e x.0 x.1 x.3 holds) one.each x.4 in
    record { count = more.count ∙ one.count; each = more.each }

-- ---- the devices of a run

pub run_genuine : (ps : List SlavePlan) (es : List Event) (w v : WorldState) (made : ℕ) → HoldsFrames w → AreGenuine ps w.slaves → IsRun w es v made → AreGenuine ps v.slaves
run_genuine ps es w v made holds g x =
    let last = run_lasts (Genuine ps) (devices_last ps) es w v made holds (λ k l. g.each k l) x in
    record { count = last.count ∙ g.count; few = g.few; each = λ k l. last.each k l }
