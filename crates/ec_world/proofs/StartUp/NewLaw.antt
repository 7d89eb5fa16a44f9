-- From a new world, and after a failure, a start-up that nothing disturbs ends Ready.
use Rattle.ec_world.proofs.Words.{ℕ, zero, suc, ◌<◌, ◌≡◌, refl, sym, ◌∙◌, ap, arith, List, [], ◌∷◌, length, get_or, None, ◌+◌, ◌-◌, ◌⊎◌, true, false, if◌then◌else◌, Option, subst, inl, inr, ◌++◌, replicate, Identity, SlavePlan, plan_of, PlanState, plan_sound, BringupRising as Rising, turns, stay, of-types, with-types, Contents, IsTurn, AreTurns, BringUp, IsToStart, IsBroughtUp, NewLaw, MachineLaw, rising_of, append-nil, length-append, SlaveState, plan_usable, MasterState, readied, cycle_limit, StartError, Phase, Idle, Ready, Failed, StartState, Feed, feeds_of, frames_up, frames_to_ready, frames-few, begun, IsUpAndWorks, AreStartable, are-plans, compiled-up, Event, WorldState, Flight, flight_at, phase_ready, phase_awaits, is_up, awaits, resumed, ready_with, IsRun, IsNew, new_world, all_none, none_free}
use Rattle.ec_world.proofs.StartUp.ScriptFits.{script_fits}
use Rattle.ec_world.proofs.Runs.Sizes.{run_same}
use Rattle.ec_world.proofs.StartUp.WholeLaw.{StillRises, still_rises, new-rises, new-low, new-holds}
use Rattle.ec_world.proofs.StartUp.TurnEvents.{Sending, length-turned}
use Rattle.ec_world.proofs.StartUp.HasTurned.{HasTurned, turns_once}

-- ---- turn after turn

pub record IsSplit (xs ys : List Event) (w v : WorldState) (made : ℕ) : Type 0 where
  pub mid : WorldState
  pub first : ℕ
  pub rest : ℕ
  pub to_mid : IsRun w xs mid first
  pub onward : IsRun mid ys v rest
  pub sum : made ≡ first + rest

pub split : (xs ys : List Event) (w v : WorldState) (made : ℕ) → IsRun w (xs ++ ys) v made → IsSplit xs ys w v made
split [] ys w v made h = record { mid = w; first = 0; rest = made; to_mid = (refl, refl); onward = h; sum = omega arith }
split (x ∷ xs) ys w v made h =
    let r = split xs ys h.0 v h.2 h.4 in
    let k : ℕ = if h.1 then 1 else 0 in
    let z : k + h.2 ≡ k + r.first + r.rest = omega (arith, r.sum) in
    record { mid = r.mid; first = k + r.first; rest = r.rest; to_mid = (h.0, h.1, r.first, h.3, r.to_mid, refl); onward = r.onward; sum = h.5 ∙ z }

pub record IsGoing (r : Rising) : Type 0 where
  pub idle : r.start.phase ≡ Idle
  pub few : r.start.next < cycle_limit

-- an idle start-up can send
idle_sends : (w : WorldState) → w.start.phase ≡ Idle → w.start.next < cycle_limit → Sending w w.start
idle_sends w idle few = record {
  resumes = ap (λ (p : Phase). resumed w.start p) idle;
  next = refl;
  not_up = ap (λ (p : Phase). phase_ready p) idle;
  none_awaited = ap (λ (p : Phase). phase_awaits p) idle;
  few = few;
}

low_master : (m : MasterState) (s : StartState) → is_up s ≡ false → ready_with m s ≡ m
low_master m s e = rw e refl

abbrev pub from_state : StartState → List SlaveState → Rising
from_state s ss = record { start = s; slaves = ss }

-- k + 1 turns are ahead, and then it is Ready
pub record MayTurn (k n : ℕ) (w : WorldState) (s : StartState) : Type 0 where
  pub can : Sending w s
  pub free : w.slots ≡ None ∷ replicate n None
  pub go : (j : ℕ) → j < suc k → IsGoing (turns j (from_state s w.slaves))
  pub ends : (turns (suc k) (from_state s w.slaves)).start.phase ≡ Ready

-- one turn less
pub turned_on : (k n : ℕ) (w : WorldState) (s : StartState) (v : WorldState) → MayTurn (suc k) n w s → HasTurned n w s v → MayTurn k n v v.start
turned_on k n w s v h o =
    let now : IsGoing (rising_of v) = subst IsGoing (sym o.is) (h.go 1 (omega arith)) in
    record {
      can = idle_sends v now.idle now.few;
      free = o.slots;
      go = λ j l. subst (λ (x : Rising). IsGoing (turns j x)) (sym o.is) (h.go (suc j) (omega (arith, l)));
      ends = subst (λ (x : Rising). (turns (suc k) x).start.phase ≡ Ready) (sym o.is) h.ends;
    }

pub turned_idle : (k n : ℕ) (w : WorldState) (s : StartState) (v : WorldState) → MayTurn (suc k) n w s → HasTurned n w s v → v.start.phase ≡ Idle
turned_idle k n w s v h o = ap (λ (r : Rising). r.start.phase) o.is ∙ (h.go 1 (omega arith)).idle

pub turned_many : (n : ℕ) (w : WorldState) (s : StartState) (v : WorldState) → HasTurned n w s v → length v.slaves ≡ length w.slaves
turned_many n w s v o = ap (λ (r : Rising). length r.slaves) o.is ∙ length-turned (from_state s w.slaves)

pub turned_up : (n : ℕ) (w : WorldState) (s : StartState) (v : WorldState) → MayTurn 0 n w s → HasTurned n w s v → v.start.phase ≡ Ready
turned_up n w s v h o = ap (λ (r : Rising). r.start.phase) o.is ∙ h.ends

record HaveTurned (k n : ℕ) (w : WorldState) (s : StartState) (es : List Event) (v : WorldState) (made : ℕ) : Type 0 where
  is : rising_of v ≡ turns k (from_state s w.slaves)
  slots : v.slots ≡ None ∷ replicate n None
  master : v.master ≡ ready_with w.master v.start
  count : made ≡ length es

turns_all : (k n : ℕ) (w : WorldState) (s : StartState) (es : List Event) (v : WorldState) (made : ℕ) → MayTurn k n w s → AreTurns (length w.slaves) (suc k) es → IsRun w es v made → HaveTurned (suc k) n w s es v made
turns_all zero n w s es v made m are h =
    let same : es ≡ are.0 = are.2 ∙ (ap (λ (xs : List Event). are.0 ++ xs) are.4 ∙ append-nil are.0) in
    let o = turns_once n w s es v made m.can m.free (subst (IsTurn (length w.slaves)) (sym same) are.3) h in
    record { is = o.1.is; slots = o.1.slots; master = o.1.master; count = o.0 }
turns_all (suc k) n w s es v made m are h =
    let p = split are.0 are.1 w v made (subst (λ (xs : List Event). IsRun w xs v made) are.2 h) in
    let once = turns_once n w s are.0 p.mid p.first m.can m.free are.3 p.to_mid in
    let o = once.1 in
    let r = turns_all k n p.mid p.mid.start are.1 v p.rest (turned_on k n w s p.mid m o) (subst (λ (i : ℕ). AreTurns i (suc k) are.1) (sym (turned_many n w s p.mid o)) are.4) p.onward in
    let low : ready_with w.master p.mid.start ≡ w.master = low_master w.master p.mid.start (ap (λ (q : Phase). phase_ready q) (turned_idle k n w s p.mid m o)) in
    record {
      is = r.is ∙ ap (λ (x : Rising). turns (suc k) x) o.is;
      slots = r.slots;
      master = r.master ∙ ap (λ (x : MasterState). ready_with x v.start) (o.master ∙ low);
      count = (let total : made ≡ length (are.0 ++ are.1) = omega (arith, length-append are.0 are.1, once.0, r.count, p.sum) in total) ∙ ap (λ (xs : List Event). length xs) (sym are.2);
    }

-- ---- from where

-- a start-up takes a frame at least: the one that counts the slaves
some_frame : (n : ℕ) → 0 < n → (k : ℕ) × (n ≡ suc k)
some_frame n some = (n - 1, omega (arith, some))

pub free_slots : (n : ℕ) (os : List (Option Flight)) → length os ≡ n → ((k : ℕ) → get_or os k None ≡ None) → os ≡ replicate n None
free_slots n os e h = all_none os h ∙ ap (λ m. replicate m None) e

record IsAnew (w : WorldState) (ps : List SlavePlan) (fs : List Feed) : Type 0 where
  resumes : w.start.plan ≡ ps → w.start.feeds ≡ fs → resumed w.start w.start.phase ≡ begun ps fs w.start.next
  not_up : is_up w.start ≡ false
  none_awaited : awaits w.start ≡ false

anew : (w : WorldState) (ps : List SlavePlan) (fs : List Feed) → (w.start ≡ begun ps fs w.start.next) ⊎ ((failure : StartError) × (w.start.phase ≡ Failed failure)) → IsAnew w ps fs
unfolding begun
anew w ps fs (inl e) =
    let idle : w.start.phase ≡ Idle = ap (λ (s : StartState). s.phase) e in
    record {
      resumes = λ q g. ap (λ (p : Phase). resumed w.start p) idle ∙ e;
      not_up = ap (λ (p : Phase). phase_ready p) idle;
      none_awaited = ap (λ (p : Phase). phase_awaits p) idle;
    }
anew w ps fs (inr h) = record {
  resumes = λ q g. ap (λ (p : Phase). resumed w.start p) h.1 ∙ (ap (λ (qs : List SlavePlan). begun qs w.start.feeds w.start.next) q ∙ ap (λ (gs : List Feed). begun ps gs w.start.next) g);
  not_up = ap (λ (p : Phase). phase_ready p) h.1;
  none_awaited = ap (λ (p : Phase). phase_awaits p) h.1;
}

begun_next : (ps : List SlavePlan) (fs : List Feed) (n : ℕ) → (begun ps fs n).next ≡ n
unfolding begun
begun_next ps fs n = refl

-- what holds of a world from which a start-up is to begin
risen : (t : Contents) (w : WorldState) (s : IsToStart t w) → is_up w.start ≡ false → StillRises (plan_of t).slaves (new_world (plan_of t) s.identities) w
risen t w s low =
    let n = s.new in
    let planned : AreStartable (plan_of t).slaves = (let a = (are-plans t n.sound n.accepted).plans in record { each = a.planned; alike = a.alike }) in
    let usable = plan_usable t n.sound n.accepted in
    still_rises s.events (plan_of t).slaves (new_world (plan_of t) s.identities) w s.made _ usable planned
    (new-rises (plan_of t) s.identities usable planned (n.one_each ∙ sym ((plan_sound t n.sound n.accepted).as_many))) (new-low (plan_of t) s.identities)
    (new-holds (plan_of t) s.identities) (with-types t n.sound n.accepted s.identities n.one_each s.devices)
    (subst (λ (x : WorldState). IsRun x s.events w s.made) n.is s.reached) low

-- what holds where a start-up is to begin
pub record IsBeginning (t : Contents) (w : WorldState) : Type 0 where
  pub k : ℕ
  pub long : frames_to_ready t w ≡ suc k
  pub turns_left : MayTurn k 63 w (begun (plan_of t).slaves (feeds_of (plan_of t)) w.start.next)
  pub many : length w.slaves ≡ length t.slaves
  pub no_cycle : w.master.cycle ≡ None
  pub up : IsUpAndWorks (plan_of t).slaves (w.start.next + frames_to_ready t w) (turns (suc k) (from_state (begun (plan_of t).slaves (feeds_of (plan_of t)) w.start.next) w.slaves))

pub beginning : (t : Contents) (w : WorldState) → IsToStart t w → IsBeginning t w
beginning t w s =
    let ps : List SlavePlan = (plan_of t).slaves in
    let fs : List Feed = feeds_of (plan_of t) in
    let new = s.new in
    let a : IsAnew w ps fs = anew w ps fs s.begins in
    let r : StillRises ps (new_world (plan_of t) s.identities) w = risen t w s a.not_up in
    let from : ℕ = w.start.next in
    let up = compiled-up t new.sound new.accepted s.agree from w.slaves (stay ps w.slaves r.devices).devices in
    let k = some_frame (frames_up ps fs w.slaves) (frames-few ps fs (are-plans t new.sound new.accepted).plans w.slaves).0 in
    let long = k.1 in
    let room = s.numbers in
    let works : IsUpAndWorks ps (from + frames_up ps fs w.slaves) (turns (suc k.0) (from_state (begun ps fs from) w.slaves))
    = subst (λ (m : ℕ). IsUpAndWorks ps (from + frames_up ps fs w.slaves) (turns m (from_state (begun ps fs from) w.slaves))) long up.0 in
    record {
      k = k.0;
      long = long;
      turns_left = record {
        can = record {
          resumes = a.resumes (r.rises.same_plan ∙ ap (λ (p : PlanState). p.slaves) r.plan_is) (r.rises.same_feeds ∙ ap feeds_of r.plan_is);
          next = begun_next ps fs from;
          not_up = a.not_up;
          none_awaited = a.none_awaited;
          few = omega (arith, room, long);
        };
        free = free_slots 64 w.slots ((run_same s.first s.events w s.made s.reached).slots ∙ ap (λ (x : WorldState). length x.slots) new.is) s.no_frame;
        go = λ j l. let g = up.1 j (omega (arith, long, l)) in let x = g.next_number in record { idle = g.idle; few = omega (arith, x, l, room, long) };
        ends = works.ready;
      };
      many = r.devices.count ∙ (plan_sound t new.sound new.accepted).as_many;
      no_cycle = r.rises.no_cycle;
      up = works;
    }

high_master : (m : MasterState) (x : StartState) → is_up x ≡ true → ready_with m x ≡ readied m x.next
high_master m x e = rw e refl

pub comes_up : (t : Contents) (w : WorldState) → IsToStart t w → (events : List Event) (v : WorldState) (made : ℕ) → BringUp t w events → IsRun w events v made → IsBroughtUp t w events v made
comes_up t w s events v made are h =
    let ps : List SlavePlan = (plan_of t).slaves in
    let fs : List Feed = feeds_of (plan_of t) in
    let b : IsBeginning t w = beginning t w s in
    let from : ℕ = w.start.next in
    let turned : HaveTurned (suc b.k) 63 w (begun ps fs from) events v made
    = turns_all b.k 63 w (begun ps fs from) events v made b.turns_left
    (subst (λ (m : ℕ). AreTurns m (suc b.k) events) (sym b.many) (subst (λ (m : ℕ). AreTurns (length t.slaves) m events) b.long are)) h in
    let works : IsUpAndWorks ps (from + frames_up ps fs w.slaves) (rising_of v) = subst (IsUpAndWorks ps (from + frames_up ps fs w.slaves)) (sym turned.is) b.up in
    let now : is_up v.start ≡ true = ap (λ (p : Phase). phase_ready p) works.ready in
    let master : v.master ≡ readied w.master v.start.next = turned.master ∙ high_master w.master v.start now in
    record {
      all_made = turned.count;
      up = now;
      works = works;
      no_frame = λ i. ap (λ (os : List (Option Flight)). get_or os i None) turned.slots ∙ none_free 64 i;
      no_cycle = ap (λ (m : MasterState). m.cycle) master ∙ b.no_cycle;
      next_number = ap (λ (m : MasterState). m.next) master;
    }

-- ---- a new world

-- its first frame has number 0
pub new_next : (t : Contents) (identities : List Identity) (w : WorldState) → IsNew t identities w → w.start.next ≡ 0
unfolding begun
new_next t identities w n = ap (λ (x : WorldState). x.start.next) n.is

pub new_law : NewLaw
unfolding begun
new_law t identities w n d agree = record {
  identities = identities;
  first = w;
  new = n;
  devices = d;
  agree = agree;
  events = [];
  made = 0;
  reached = (refl, refl);
  no_frame = λ k. ap (λ (x : WorldState). flight_at x k) n.is ∙ none_free 64 k;
  begins = inl (ap (λ (x : WorldState). x.start) n.is ∙ ap (λ (k : ℕ). begun (plan_of t).slaves (feeds_of (plan_of t)) k) (sym (ap (λ (x : WorldState). x.start.next) n.is)));
  numbers = let fits = script_fits t n.sound n.accepted w.slaves in let z : w.start.next ≡ 0 = ap (λ (x : WorldState). x.start.next) n.is in omega (arith, fits, z);
}

-- ---- a world of a machine

pub machine_law : MachineLaw
machine_law t w m agree = new_law t m.identities w m.new (of-types t m.new.sound m.new.accepted m.identities m.shown) agree
