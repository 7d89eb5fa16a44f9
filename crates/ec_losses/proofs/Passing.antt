-- The master of a world while frames pass: it is given what comes back, and nothing else happens to it.
use Rattle.std.proofs.Common.{◌≡◌, ◌∙◌, ℕ, ◌+◌, List, [], ◌∷◌, ◌++◌, set, Bool, true, false, Option, Some, None, refl, sym, ap, subst}
use Rattle.ec_slave.specs.Application.{output_taken}
use Rattle.ec_slave.specs.Faulting.{faulted}
use Rattle.ec_slave.specs.Serving.{served}
use Rattle.ec_slave.specs.State.{power_on}
use Rattle.ec_cycle.specs.Master.{IsTaken, MasterState}
use Rattle.ec_start.specs.declared.phase.Phase.{Phase}
use Rattle.ec_start.specs.declared.phase.Phase.TheVariants.{Idle, Sent, Ready, Failed}
use Rattle.ec_world.specs.declared.event.Event.{Event}
use Rattle.ec_world.specs.declared.event.Event.TheVariants.{StartNext, Set, Begin, Pass, Lose, Return, Close, Serve, AppPut, AppGet, Fault, Reset, Stop}
use Rattle.ec_world.specs.World.{ByStart, Flight, Gets, IsStep, Passes, Puts, Returns, StartReturns, WorldState, awaits, flight_at, is_up, phase_awaits, phase_ready, slave_of, with_slave}
use Rattle.ec_losses.specs.Losses.{Brings, Keeps, brought, bytes_in, is_passage}
use Rattle.ec_losses.proofs.Alike.{one_outcome}

-- payloads that are given to a master one after another
abbrev pub Given : MasterState → List (List ℕ) → MasterState → Type 0
Given m [] n = n ≡ m
Given m (p ∷ ps) n = (b : Bool) × (x : MasterState) × IsTaken m p b x × Given x ps n

-- they have one outcome
pub kept_given : (ps : List (List ℕ)) (m : MasterState) (kept : List (List ℕ)) (n k : MasterState) → Keeps m ps kept n → Given m ps k → k ≡ n
kept_given [] m kept n k (none, same) given = given ∙ sym same
kept_given (p ∷ ps) m kept n k (b, x, more, t, is, rest) (c, y, u, given) = kept_given ps x more n k rest (subst (λ (z : MasterState). Given z ps k) (one_outcome m p c b y x u t) given)

-- a start-up that is Ready awaits nothing
ready_rests : (p : Phase) → phase_ready p ≡ true → phase_awaits p ≡ false
ready_rests Idle e = let f : false ≡ true = e in cc
ready_rests (Sent number) e = let f : false ≡ true = e in cc
ready_rests Ready e = refl
ready_rests (Failed error) e = let f : false ≡ true = e in cc

pub up_rests : (w : WorldState) → is_up w.start ≡ true → awaits w.start ≡ false
up_rests w up = ready_rests w.start.phase up

pub by_master : (b : Bool) (x y : Type 0) → b ≡ false → ByStart b x y → y
by_master b x y is h = subst (λ (c : Bool). ByStart c x y) is h

-- what one event leaves
record IsLeft (w : WorldState) (back : List (List ℕ)) (x : WorldState) : Type 0 where
  pub start : x.start ≡ w.start
  pub given : (more : List (List ℕ)) (n : MasterState) → Given x.master more n → Given w.master (back ++ more) n

left_alone : (w x : WorldState) → x.start ≡ w.start → x.master ≡ w.master → IsLeft w [] x
left_alone w x start master = record { start = start; given = λ more n h. subst (λ (m : MasterState). Given m more n) master h }

came_back : (w : WorldState) (k : ℕ) (x : WorldState) → Returns w k x → IsLeft w (bytes_in (flight_at w k)) x
came_back w k x h = record {
  start = ap (λ (v : WorldState). v.start) h.is;
  given = λ more n rest. subst (λ (o : Option Flight). Given w.master (bytes_in o ++ more) n) (sym h.there) (h.is_accepted, x.master, h.master, rest);
}

left_as : (w x y : WorldState) → x ≡ y → y.start ≡ w.start → y.master ≡ w.master → IsLeft w [] x
left_as w x y is start master = left_alone w x (ap (λ (v : WorldState). v.start) is ∙ start) (ap (λ (v : WorldState). v.master) is ∙ master)

one_left : (w : WorldState) (e : Event) (x : WorldState) → is_up w.start ≡ true → is_passage e ≡ true → IsStep w e x true → IsLeft w (brought w e) x
one_left w (Pass k) x up passes s =
    let h : Passes w k x = s.happens refl in
    left_as w x (record w { slaves = x.slaves; slots = set w.slots k (Some (record h.flight { bytes = h.bytes; passed = h.flight.passed + 1 })) }) h.is refl refl
one_left w (Lose k) x up passes s = left_as w x (record w { slots = set w.slots k None }) (s.happens refl) refl refl
one_left w (Return k) x up passes s = came_back w k x (by_master (awaits w.start) (StartReturns w k x) (Returns w k x) (up_rests w up) (s.happens refl))
one_left w (Serve k) x up passes s = left_as w x (with_slave w k (served (slave_of w k))) (s.happens refl) refl refl
one_left w (AppPut k i b) x up passes s = let h : Puts w k i b x = s.happens refl in left_as w x (with_slave w k h.slave) h.is refl refl
one_left w (AppGet k i) x up passes s =
    let h : Gets w k i x = s.happens refl in
    left_as w x (record (with_slave w k (output_taken (slave_of w k) (Some h.got))) { got = Some h.got.byte }) h.is refl refl
one_left w (Fault k) x up passes s = left_as w x (with_slave w k (faulted (slave_of w k))) (s.happens refl) refl refl
one_left w (Reset k) x up passes s = left_as w x (with_slave w k (power_on (slave_of w k).kind (slave_of w k).identity)) (s.happens refl) refl refl
one_left w StartNext x up passes s = let f : false ≡ true = passes in cc
one_left w (Set v y) x up passes s = let f : false ≡ true = passes in cc
one_left w Begin x up passes s = let f : false ≡ true = passes in cc
one_left w Close x up passes s = let f : false ≡ true = passes in cc
one_left w Stop x up passes s = let f : false ≡ true = passes in cc

-- what all of them leave
pub record AreLeft (w : WorldState) (back : List (List ℕ)) (v : WorldState) : Type 0 where
  pub start : v.start ≡ w.start
  pub given : Given w.master back v.master

pub all_left : (es : List Event) (w : WorldState) (back : List (List ℕ)) (v : WorldState) → is_up w.start ≡ true → Brings w es back v → AreLeft w back v
all_left [] w back v up (none, same) = record {
  start = ap (λ (x : WorldState). x.start) same;
  given = subst (λ (ps : List (List ℕ)). Given w.master ps v.master) (sym none) (ap (λ (x : WorldState). x.master) same);
}
all_left (e ∷ es) w back v up (x, more, passes, step, is, rest) =
    let one = one_left w e x up passes step in
    let all = all_left es x more v (ap is_up one.start ∙ up) rest in
    record {
      start = all.start ∙ one.start;
      given = subst (λ (ps : List (List ℕ)). Given w.master ps v.master) (sym is) (one.given more v.master all.given);
    }
