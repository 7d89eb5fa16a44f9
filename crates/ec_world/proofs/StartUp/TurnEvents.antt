-- The events of a frame of a start-up: it is sent, it passes a slave, it comes back.
use Rattle.ec_world.proofs.Words.{ℕ, zero, suc, ◌+◌, ◌<◌, ◌≡◌, ◌==◌, nat_lt, Bool, true, false, Option, Some, None, refl, sym, ◌∙◌, ap, subst, arith, List, [], ◌∷◌, ◌++◌, length, get_or, set, replicate, option_map, eq-eqb, lt-ltb, le-ltb, list_all, AllByRecursion, length-map, Datagram, IsDatagram, Payload, with_datagrams, bare_payload, SlaveState, passes, Passed, slave_met, datagram_met, served, nones, cycle_limit, name_datagram, frame_of, datagram_of, StartState, action_of, sending, taken, IsStartAnswer, second, all_passed, all_met, BringupRising as Rising, turned, IsRound, round, Carried, IsCarried, frame-passes, StartNext, Pass, Return, Progress, filled, may_pass, may_return, lets_by, is_older, WorldState, Flight, no_slave, slave_of, flight_at, flight_progress, flights_progress, can_happen, awaits, resumed, is_up, ready_with, ByStart, Sends, Passes, Returns, StartReturns, IsStep, some_same, length-append, filled-none, nones-all, get_or-append_seam, set-append_seam, length-replicate}

-- ---- lists

inside : (pre : List SlaveState) (s : SlaveState) (ss : List SlaveState) → nat_lt (length pre) (length (pre ++ (s ∷ ss))) ≡ true
inside pre s ss =
    let lt : length pre < length (pre ++ (s ∷ ss)) = omega (arith, length-append pre (s ∷ ss)) in
    lt-ltb (length pre) (length (pre ++ (s ∷ ss))) lt

-- ---- the frame in its slot

none-in-way : (f : Progress) (n : ℕ) → list_all (lets_by f) (flights_progress (replicate n None)) ≡ true
none-in-way f zero = refl
none-in-way f (suc n) = none-in-way f n

pub record InSlot (n : ℕ) (m : WorldState) (c : Carried) : Type 0 where
  pub bytes : List ℕ
  pub slots : m.slots ≡ Some (record { bytes = bytes; number = c.number; part = 0; passed = c.passed }) ∷ replicate n None
  pub carried : IsCarried bytes c

-- one pass
pub record OnePast (n : ℕ) (m : WorldState) (c : Carried) (pre : List SlaveState) (s : SlaveState) (ss : List SlaveState) (u : WorldState) (one : Bool) : Type 0 where
  pub made : one ≡ true
  pub start : u.start ≡ m.start
  pub master : u.master ≡ m.master
  pub slaves : u.slaves ≡ pre ++ (slave_met s c.datagram ∷ ss)
  pub slot : InSlot n u (record { number = c.number; passed = c.passed + 1; datagram = datagram_met s c.datagram })

not-older : (number : ℕ) (k : ℕ) → is_older (record { number = number; part = 0; passed = k }) (record { number = number; part = 0; passed = k }) ≡ false
not-older number k = rw (not-less number, eq-eqb number number refl) refl
  where
    not-less : (x : ℕ) → nat_lt x x ≡ false
    not-less x = le-ltb x x (omega arith)

lets-all : (n number k : ℕ) → (let f : Progress = record { number = number; part = 0; passed = k } in list_all (lets_by f) (Some f ∷ flights_progress (replicate n None))) ≡ true
lets-all n number k = let f : Progress = record { number = number; part = 0; passed = k } in rw (not-older number k) (none-in-way f n)

pub one-past : (n : ℕ) (m : WorldState) (c : Carried) (pre : List SlaveState) (s : SlaveState) (ss : List SlaveState) (u : WorldState) (one : Bool)
    → InSlot n m c → c.passed ≡ length pre → m.slaves ≡ pre ++ (s ∷ ss) → IsStep m (Pass 0) u one → OnePast n m c pre s ss u one
one-past n m c pre s ss u one i at e step =
    let f : Flight = record { bytes = i.bytes; number = c.number; part = 0; passed = c.passed } in
    let there : flight_at m 0 ≡ Some f = ap (λ (os : List (Option Flight)). get_or os 0 None) i.slots in
    let room : nat_lt c.passed (length m.slaves) ≡ true
    = ap (λ (k : ℕ). nat_lt k (length m.slaves)) at ∙ (ap (λ (xs : List SlaveState). nat_lt (length pre) (length xs)) e ∙ inside pre s ss) in
    let may : may_pass (length m.slaves) (flights_progress (Some f ∷ replicate n None)) (Some (flight_progress f)) ≡ true
    = rw room (lets-all n c.number c.passed) in
    let can : can_happen m (Pass 0) ≡ true
    = ap (λ (os : List (Option Flight)). may_pass (length m.slaves) (flights_progress os) (option_map flight_progress (get_or os 0 None))) i.slots ∙ may in
    let p : Passes m 0 u = step.happens (step.can ∙ can) in
    let same : p.flight ≡ f = some_same p.flight f (sym p.there ∙ there) in
    let place : p.flight.passed ≡ length pre = ap (λ (x : Flight). x.passed) same ∙ at in
    let own : slave_of m p.flight.passed ≡ s = ap (λ (k : ℕ). get_or m.slaves k no_slave) place ∙ (ap (λ (xs : List SlaveState). get_or xs (length pre) no_slave) e ∙ get_or-append_seam pre s ss no_slave) in
    let car : IsCarried p.flight.bytes c = subst (λ (x : Flight). IsCarried x.bytes c) (sym same) i.carried in
    let load : Payload = car.payload in
    let x : SlaveState = slave_of m p.flight.passed in
    let met : passes x load.datagrams ≡ record { slave = slave_met x c.datagram; datagrams = name_datagram c.number 0 ∷ datagram_met x c.datagram ∷ [] }
    = ap (passes x) car.datagrams ∙ frame-passes x c.number c.datagram in
    record {
      made = step.can ∙ can;
      start = ap (λ (w : WorldState). w.start) p.is;
      master = ap (λ (w : WorldState). w.master) p.is;
      slaves = p.passed.slaves load car.spelled
          ∙ rw (met, own, place, e) (set-append_seam pre s ss (slave_met s c.datagram));
      slot = record {
        bytes = p.bytes;
        slots = ap (λ (w : WorldState). w.slots) p.is
            ∙ (ap (λ (y : Flight). set m.slots 0 (Some (record y { bytes = p.bytes; passed = y.passed + 1 }))) same
            ∙ ap (λ (os : List (Option Flight)). set os 0 (Some (record f { bytes = p.bytes; passed = f.passed + 1 }))) i.slots);
        carried = record {
          payload = with_datagrams load (passes x load.datagrams).datagrams;
          spelled = p.passed.frame load car.spelled;
          datagrams = ap (λ (y : Passed). y.datagrams) met ∙ ap (λ (y : SlaveState). name_datagram c.number 0 ∷ datagram_met y c.datagram ∷ []) own;
        };
      };
    }

-- ---- it is sent

pub second-good : (ds : List Datagram) (number : ℕ) (d : Datagram) → AllByRecursion IsDatagram ds → ds ≡ name_datagram number 0 ∷ d ∷ [] → IsDatagram d
second-good ds number d h e = let q : AllByRecursion IsDatagram (name_datagram number 0 ∷ d ∷ []) = subst (AllByRecursion IsDatagram) e h in q.1.0

-- a world that can send a frame, of a start-up that is then in this state
pub record Sending (w : WorldState) (s : StartState) : Type 0 where
  pub resumes : resumed w.start w.start.phase ≡ s
  pub next : s.next ≡ w.start.next
  pub not_up : is_up w.start ≡ false
  pub none_awaited : awaits w.start ≡ false
  pub few : w.start.next < cycle_limit

pub record IsOut (n : ℕ) (w : WorldState) (s : StartState) (u : WorldState) (one : Bool) : Type 0 where
  pub made : one ≡ true
  pub start : u.start ≡ sending s
  pub master : u.master ≡ w.master
  pub slaves : u.slaves ≡ w.slaves
  pub good : IsDatagram (datagram_of (action_of s) s.next)
  pub slot : InSlot n u (record { number = s.next; passed = 0; datagram = datagram_of (action_of s) s.next })

pub send-one : (n : ℕ) (w u : WorldState) (one : Bool) (s : StartState) → Sending w s → w.slots ≡ None ∷ replicate n None → IsStep w StartNext u one → IsOut n w s u one
send-one n w u one s sends e step =
    let free : (nones w.slots == length w.slots) ≡ true
    = ap (λ (os : List (Option Flight)). nones os == length os) e ∙ eq-eqb (nones (replicate {A = Option Flight} (suc n) None)) (length (replicate {A = Option Flight} (suc n) None)) (nones-all Flight (suc n) ∙ sym (length-replicate {A = Option Flight} (suc n) None)) in
    let can : can_happen w StartNext ≡ true = rw (sends.not_up, sends.none_awaited, free, lt-ltb w.start.next cycle_limit sends.few) refl in
    let p : Sends w u = step.happens (step.can ∙ can) in
    let f : Flight = record { bytes = p.bytes; number = w.start.next; part = 0; passed = 0 } in
    let load : Payload = bare_payload (frame_of (action_of (resumed w.start w.start.phase)) w.start.next) in
    let told : load.datagrams ≡ frame_of (action_of s) s.next
    = ap (λ (x : StartState). frame_of (action_of x) w.start.next) sends.resumes ∙ ap (λ (k : ℕ). frame_of (action_of s) k) (sym sends.next) in
    record {
      made = step.can ∙ can;
      start = ap (λ (x : WorldState). x.start) p.is ∙ ap sending sends.resumes;
      master = ap (λ (x : WorldState). x.master) p.is;
      slaves = ap (λ (x : WorldState). x.slaves) p.is;
      good = second-good load.datagrams s.next (datagram_of (action_of s) s.next) p.spelled.each told;
      slot = record {
        bytes = p.bytes;
        slots = ap (λ (x : WorldState). x.slots) p.is
            ∙ (ap (λ (os : List (Option Flight)). filled (f ∷ []) os) e
            ∙ (ap (λ (os : List (Option Flight)). Some f ∷ os) (filled-none (replicate n None))
            ∙ ap (λ (k : ℕ). Some (record { bytes = p.bytes; number = k; part = 0; passed = 0 }) ∷ replicate n None) (sym sends.next)));
        carried = record { payload = load; spelled = p.spelled; datagrams = told };
      };
    }

-- ---- it comes back

pub record IsBack (n : ℕ) (m : WorldState) (s : StartState) (d : Datagram) (u : WorldState) (one : Bool) : Type 0 where
  pub made : one ≡ true
  pub start : u.start ≡ taken (sending s) d
  pub master : u.master ≡ ready_with m.master u.start
  pub slaves : u.slaves ≡ m.slaves
  pub slots : u.slots ≡ None ∷ replicate n None

pub return-one : (n : ℕ) (m : WorldState) (s : StartState) (ss : List SlaveState) (passed : ℕ) (u : WorldState) (one : Bool)
    → (let d : Datagram = all_passed ss (datagram_of (action_of s) s.next) in InSlot n m (record { number = s.next; passed = passed; datagram = d }))
    → passed ≡ length m.slaves → m.start ≡ sending s → IsDatagram (datagram_of (action_of s) s.next) → IsStep m (Return 0) u one
    → IsBack n m s (all_passed ss (datagram_of (action_of s) s.next)) u one
return-one n m s ss passed u one i at e good step =
    let d : Datagram = all_passed ss (datagram_of (action_of s) s.next) in
    let f : Flight = record { bytes = i.bytes; number = s.next; part = 0; passed = passed } in
    let c : Carried = record { number = s.next; passed = passed; datagram = d } in
    let there : flight_at m 0 ≡ Some f = ap (λ (os : List (Option Flight)). get_or os 0 None) i.slots in
    let can : can_happen m (Return 0) ≡ true
    = ap (λ (o : Option Flight). may_return (length m.slaves) (option_map flight_progress o)) there ∙ eq-eqb passed (length m.slaves) at in
    let on : awaits m.start ≡ true = ap (λ (x : StartState). awaits x) e in
    let p : StartReturns m 0 u = subst (λ (b : Bool). ByStart b (StartReturns m 0 u) (Returns m 0 u)) on (step.happens (step.can ∙ can)) in
    let same : p.flight ≡ f = some_same p.flight f (sym p.there ∙ there) in
    let car : IsCarried p.flight.bytes c = subst (λ (x : Flight). IsCarried x.bytes c) (sym same) i.carried in
    let r : IsRound (sending s) s.next ss = round (sending s) s.next ss good in
    let answer : IsStartAnswer m.start s.next car.payload.datagrams
    = subst (λ (x : StartState). IsStartAnswer x s.next car.payload.datagrams) (sym e) (subst (λ (ds : List Datagram). IsStartAnswer (sending s) s.next ds) (r.datagrams ∙ sym car.datagrams) r.answer) in
    let kept : p.is_accepted ≡ true = (p.start.answers s.next car.payload (ap (λ (x : StartState). x.phase) e) car.spelled).1 answer in
    record {
      made = step.can ∙ can;
      start = p.start.kept car.payload d kept car.spelled (ap second car.datagrams) ∙ ap (λ (x : StartState). taken x d) e;
      master = ap (λ (w : WorldState). w.master) p.is;
      slaves = ap (λ (w : WorldState). w.slaves) p.is;
      slots = ap (λ (w : WorldState). w.slots) p.is ∙ ap (λ (os : List (Option Flight)). set os 0 None) i.slots;
    }

-- ---- a start-up and its slaves

pub rising-by : (a b : StartState) (xs ys : List SlaveState) → a ≡ b → xs ≡ ys → (let x : Rising = record { start = a; slaves = xs } in let y : Rising = record { start = b; slaves = ys } in x ≡ y)
rising-by a b xs ys e f = ap (λ (s : StartState). record { start = s; slaves = xs }) e ∙ ap (λ (zs : List SlaveState). record { start = b; slaves = zs }) f

pub length-met : (ss : List SlaveState) (d : Datagram) → length (all_met ss d) ≡ length ss
length-met [] d = refl
length-met (s ∷ ss) d = ap (λ (n : ℕ). suc n) (length-met ss (datagram_met s d))

pub length-turned : (r : Rising) → length (turned r).slaves ≡ length r.slaves
length-turned r =
    let d : Datagram = datagram_of (action_of r.start) r.start.next in
    length-map (all_met r.slaves d) served ∙ length-met r.slaves d
