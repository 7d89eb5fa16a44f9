-- Steps of a world, from what the calls of its parts say.
use Rattle.ec_world.proofs.Words.{ℕ, ◌<◌, ◌≡◌, ◌==◌, ◌&&◌, not, Bool, true, false, Option, Some, None, refl, sym, ◌∙◌, ap, subst, arith, List, [], ◌∷◌, length, set, is_some, slice_get, option_map, unwrap_or, nat_lt, if◌then◌else◌, IsTrue, ◌↔◌, list_all, lt-ltb, ltb-true, ne_eqb, and_parts, set-get_or, slice_get-get_or, get_or_from_slice_get, State, Init, PreOp, SafeOp, Op, Got, faults, SlaveState, input_put, output_got, output_taken, faulted, PlanState, IsFrame, Datagram, bare_payload, frame_of, StartState, IsStartTaken, action_of, begun, asked, asked_by, next_frame, next_frame_by, sending, last_number, NumbersSpent, Phase, Idle, Sent, Ready, Failed, Send, Ended, ReportState, nones, MasterState, IsTaken, StartNext, Pass, Return, AppPut, AppGet, Fault, Progress, may_pass, may_return, lets_by, filled, IsAnswered, IsTakenIn, IsHandedIn, ByStart, StartReturns, Returns, can_start, awaits, is_up, phase_awaits, phase_ready, ready_with, resumed, WorldState, Flight, IsStep, no_slave, slave_of, with_slave, flight_at, flight_progress, flights_progress, HavePassed, some_if, none_if, none_mapped}
use Rattle.ec_world.proofs.Runs.Leaves.{mapped}
use Rattle.ec_al.specs.Al as al

-- ---- a slave's own events

there-is : (s n : ℕ) (b : Bool) → s < n → (nat_lt s n && b) ≡ b
there-is s n b l = ap (λ x. x && b) (lt-ltb s n l)

pub same-slave : (w : WorldState) (s : ℕ) (t : SlaveState) → t ≡ slave_of w s → with_slave w s t ≡ w
same-slave w s t e = ap (λ x. with_slave w s x) e ∙ ap (λ xs. record w { slaves = xs }) (set-get_or w.slaves s no_slave)

-- the slave that is lent
lent : (w : WorldState) (s : ℕ) (t : SlaveState) → slice_get w.slaves s ≡ Some t → t ≡ slave_of w s
lent w s t e = sym (get_or_from_slice_get w.slaves s t no_slave e)

pub put-step : (w : WorldState) (s i x : ℕ) (made : Bool) (old t : SlaveState) → s < length w.slaves → slice_get w.slaves s ≡ Some old
    → made ≡ is_some (input_put old i x) → t ≡ unwrap_or (input_put old i x) old → IsStep w (AppPut s i x) (with_slave w s t) made
put-step w s i x made old t l there granted after =
    let o = input_put (slave_of w s) i x in
    let e = lent w s old there in
    let g : made ≡ is_some o = subst (λ (y : SlaveState). made ≡ is_some (input_put y i x)) e granted in
    let a : t ≡ unwrap_or o (slave_of w s) = subst (λ (y : SlaveState). t ≡ unwrap_or (input_put y i x) y) e after in
    record {
      can = g ∙ sym (there-is s (length w.slaves) (is_some o) l);
      happens = λ m. record { slave = t; put = some_if o (slave_of w s) (sym g ∙ m) ∙ ap (λ z. Some z) (sym a); is = refl };
      refused = λ m. same-slave w s t (a ∙ none_if o (slave_of w s) (sym g ∙ m));
    }

pub get-step : (w : WorldState) (s i b : ℕ) (old t : SlaveState) → s < length w.slaves → slice_get w.slaves s ≡ Some old
    → Some b ≡ option_map (λ (g : Got). g.byte) (output_got old i) → t ≡ output_taken old (output_got old i)
    → IsStep w (AppGet s i) (record (with_slave w s t) { got = Some b }) true
get-step w s i b old t l there byte after =
    let e = lent w s old there in
    let r = mapped (λ (g : Got). g.byte) (output_got (slave_of w s) i) b (sym (subst (λ (y : SlaveState). Some b ≡ option_map (λ (g : Got). g.byte) (output_got y i)) e byte)) in
    let left : t ≡ output_taken (slave_of w s) (Some r.value) = subst (λ (y : SlaveState). t ≡ output_taken y (output_got y i)) e after ∙ ap (λ (o : Option Got). output_taken (slave_of w s) o) r.there in
    record {
      can = sym (there-is s (length w.slaves) (is_some (output_got (slave_of w s) i)) l ∙ ap is_some r.there);
      happens = λ m. record { got = r.value; read = r.there; is = ap (λ (y : SlaveState). record (with_slave w s y) { got = Some b }) left ∙ ap (λ (n : ℕ). record (with_slave w s (output_taken (slave_of w s) (Some r.value))) { got = Some n }) (sym r.is) };
      refused = λ m. absurd (let z : true ≡ false = m in cc);
    }

pub no-get-step : (w : WorldState) (s i : ℕ) (old t : SlaveState) → s < length w.slaves → slice_get w.slaves s ≡ Some old
    → None ≡ option_map (λ (g : Got). g.byte) (output_got old i) → t ≡ output_taken old (output_got old i)
    → IsStep w (AppGet s i) (with_slave w s t) false
no-get-step w s i old t l there byte after =
    let e = lent w s old there in
    let none : output_got (slave_of w s) i ≡ None
    = none_mapped (λ (g : Got). g.byte) (output_got (slave_of w s) i) (sym (subst (λ (y : SlaveState). None ≡ option_map (λ (g : Got). g.byte) (output_got y i)) e byte)) in
    record {
      can = sym (there-is s (length w.slaves) (is_some (output_got (slave_of w s) i)) l ∙ ap is_some none);
      happens = λ m. absurd (let z : false ≡ true = m in cc);
      refused = λ m. same-slave w s t (subst (λ (y : SlaveState). t ≡ output_taken y (output_got y i)) e after ∙ ap (λ (o : Option Got). output_taken (slave_of w s) o) none);
    }

pub fault-step : (w : WorldState) (s : ℕ) (made : Bool) (old t : SlaveState) → s < length w.slaves → slice_get w.slaves s ≡ Some old
    → (IsTrue made ↔ (old.al.state ≡ Op)) → t ≡ faulted old → IsStep w (Fault s) (with_slave w s t) made
fault-step w s made old t l there taken after =
    let e = lent w s old there in
    let same : made ≡ al.is_operational (slave_of w s).al.state = subst (λ (y : SlaveState). made ≡ al.is_operational y.al.state) e (by made old.al.state taken) in record {
      can = same ∙ sym (there-is s (length w.slaves) (al.is_operational (slave_of w s).al.state) l);
      happens = λ m. ap (λ (y : SlaveState). with_slave w s y) (subst (λ (y : SlaveState). t ≡ faulted y) e after);
      refused = λ m. same-slave w s t (subst (λ (y : SlaveState). t ≡ faulted y) e after ∙ (faults (slave_of w s)).elsewhere (sym same ∙ m));
    }
  where
    by : (b : Bool) (st : State) → (IsTrue b ↔ (st ≡ Op)) → b ≡ al.is_operational st
    by true Init h = absurd (let z : Init ≡ Op = h.0 refl in cc)
    by true PreOp h = absurd (let z : PreOp ≡ Op = h.0 refl in cc)
    by true SafeOp h = absurd (let z : SafeOp ≡ Op = h.0 refl in cc)
    by false Op h = absurd (let z : false ≡ true = h.1 refl in cc)
    by _ _ h = refl

-- ---- a frame passes its next slave

pub next-there : (n : ℕ) (all : List (Option Progress)) (o : Option Flight) (f : Flight) → o ≡ Some f → may_pass n all (option_map flight_progress o) ≡ true → f.passed < n
next-there n all o f e h =
    let may : (nat_lt f.passed n && list_all (lets_by (flight_progress f)) all) ≡ true = ap (λ (x : Option Flight). may_pass n all (option_map flight_progress x)) (sym e) ∙ h in
    ltb-true f.passed n (and_parts (nat_lt f.passed n) (list_all (lets_by (flight_progress f)) all) may).0

pub pass-step : (w : WorldState) (k : ℕ) (after : List SlaveState) (slots : List (Option Flight))
    → may_pass (length w.slaves) (flights_progress w.slots) (option_map flight_progress (flight_at w k)) ≡ true
    → ((f : Flight) → flight_at w k ≡ Some f → HavePassed w.slaves w.slots k f after slots)
    → IsStep w (Pass k) (record w { slaves = after; slots = slots }) true
pass-step w k after slots may h = go (flight_at w k) refl
  where
    go : (o : Option Flight) → flight_at w k ≡ o → IsStep w (Pass k) (record w { slaves = after; slots = slots }) true
    go None q = absurd (let z : false ≡ true = sym (ap (λ (o : Option Flight). may_pass (length w.slaves) (flights_progress w.slots) (option_map flight_progress o)) q) ∙ may in cc)
    go (Some f) q =
        let p = h f q in
        let l = next-there (length w.slaves) (flights_progress w.slots) (flight_at w k) f q may in record {
          can = sym may;
          happens = λ m. record {
            flight = f;
            there = q;
            bytes = p.passed.bytes;
            passed = p.passed.met (slave_of w f.passed) (slice_get-get_or w.slaves f.passed no_slave l);
            is = ap (λ (xs : List (Option Flight)). record w { slaves = after; slots = xs }) (p.is ∙ ap (λ (o : Option Flight). set w.slots k o) p.passed.is);
          };
          refused = λ m. absurd (let z : true ≡ false = m in cc);
        }

-- ---- the parts of a world

abbrev pub world_of : PlanState → StartState → MasterState → List SlaveState → List (Option Flight) → Option ℕ → Option ReportState → WorldState
world_of plan start master slaves slots got report = record { plan = plan; start = start; master = master; slaves = slaves; slots = slots; got = got; report = report }

-- ---- a payload comes back

pub by-start : (b : Bool) (X Y : Type 0) → b ≡ true → X → ByStart b X Y
by-start true X Y e x = x
by-start false X Y e x = absurd (let z : false ≡ true = e in cc)

pub by-master : (b : Bool) (X Y : Type 0) → b ≡ false → Y → ByStart b X Y
by-master true X Y e y = absurd (let z : true ≡ false = e in cc)
by-master false X Y e y = y

abbrev returned : WorldState → StartState → MasterState → List (Option Flight) → WorldState
returned w t n slots = record w { start = t; master = n; slots = slots }

pub return-step : (w : WorldState) (k : ℕ) (payload : List ℕ) (t : StartState) (n : MasterState) (slots : List (Option Flight))
    → may_return (length w.slaves) (option_map flight_progress (flight_at w k)) ≡ true
    → ((f : Flight) → flight_at w k ≡ Some f → payload ≡ f.bytes)
    → IsHandedIn w.start w.master payload t n → slots ≡ set w.slots k None
    → IsStep w (Return k) (returned w t n slots) true
return-step w k payload t n slots may bytes handed empty = go (flight_at w k) refl
  where
    by : (f : Flight) → flight_at w k ≡ Some f → (b : Bool) → ByStart b (IsAnswered w.start w.master payload t n) (IsTakenIn w.start w.master payload t n)
        → ByStart b (StartReturns w k (returned w t n slots)) (Returns w k (returned w t n slots))
    by f q true h = record {
      flight = f;
      there = q;
      is_accepted = h.is_accepted;
      start = subst (λ (xs : List ℕ). IsStartTaken w.start xs h.is_accepted t) (bytes f q) h.start;
      is = ap (λ (m : MasterState). returned w t m slots) h.master ∙ ap (λ (xs : List (Option Flight)). returned w t (ready_with w.master t) xs) empty;
    }
    by f q false h = record {
      flight = f;
      there = q;
      is_accepted = h.is_accepted;
      master = subst (λ (xs : List ℕ). IsTaken w.master xs h.is_accepted n) (bytes f q) h.master;
      is = ap (λ (s : StartState). returned w s n slots) h.start ∙ ap (λ (xs : List (Option Flight)). returned w w.start n xs) empty;
    }

    go : (o : Option Flight) → flight_at w k ≡ o → IsStep w (Return k) (returned w t n slots) true
    go None q = absurd (let z : false ≡ true = sym (ap (λ (o : Option Flight). may_return (length w.slaves) (option_map flight_progress o)) q) ∙ may in cc)
    go (Some f) q = record {
      can = sym may;
      happens = λ m. by f q (awaits w.start) handed;
      refused = λ m. absurd (let z : true ≡ false = m in cc);
    }

-- ---- a start-up goes on

record Goes (s : StartState) (t : StartState) : Type 0 where
  idle : t.phase ≡ Idle
  number : t.next ≡ s.next

goes : (s : StartState) (p : Phase) → s.phase ≡ p → phase_ready p ≡ false → phase_awaits p ≡ false → Goes s (resumed s p)
unfolding begun
goes s Idle q up waits = record { idle = q; number = refl }
goes s (Sent number) q up waits = absurd (let z : true ≡ false = waits in cc)
goes s Ready q up waits = absurd (let z : true ≡ false = up in cc)
goes s (Failed failure) q up waits = record { idle = refl; number = refl }

left : (s : StartState) → s.phase ≡ Idle → s.next < last_number → (asked s ≡ sending s) × (next_frame s ≡ Send)
left s idle l =
    let more : (s.next == last_number) ≡ false = ne_eqb s.next last_number (λ e. absurd (omega (arith, e, l))) in (
      ap (asked_by s) idle ∙ ap (λ (b : Bool). if b then record s { phase = Failed NumbersSpent } else sending s) more,
      ap (next_frame_by s) idle ∙ ap (λ (b : Bool). if b then Ended else Send) more,
    )

is-not : (b : Bool) → not b ≡ true → b ≡ false
is-not true e = absurd (let z : false ≡ true = e in cc)
is-not false e = refl

abbrev starting : WorldState → StartState → List (Option Flight) → WorldState
starting w t slots = record w { start = t; slots = slots }

abbrev first_flight : List ℕ → ℕ → Flight
first_flight bytes number = record { bytes = bytes; number = number; part = 0; passed = 0 }

-- it is to send a frame, with the number that is next
abbrev IsToSend : WorldState → StartState → Type 0
IsToSend w s = (s.phase ≡ Idle) × (s.next ≡ w.start.next) × (s.next < last_number)

to-send : (w : WorldState) (s : StartState) → can_start w ≡ true → s ≡ resumed w.start w.start.phase → IsToSend w s
to-send w s can is =
    let up = and_parts (not (is_up w.start)) (not (awaits w.start) && ((nones w.slots == length w.slots) && nat_lt w.start.next last_number)) can in
    let waits = and_parts (not (awaits w.start)) ((nones w.slots == length w.slots) && nat_lt w.start.next last_number) up.1 in
    let room = and_parts (nones w.slots == length w.slots) (nat_lt w.start.next last_number) waits.1 in
    let g = goes w.start w.start.phase refl (is-not (is_up w.start) up.0) (is-not (awaits w.start) waits.0) in
    let number : s.next ≡ w.start.next = ap (λ (x : StartState). x.next) is ∙ g.number in
    (ap (λ (x : StartState). x.phase) is ∙ g.idle, number, omega (arith, ltb-true w.start.next last_number room.1, number))

pub next-sends : (w : WorldState) (s : StartState) → can_start w ≡ true → s ≡ resumed w.start w.start.phase → next_frame s ≡ Send
next-sends w s can is = let h = to-send w s can is in (left s h.0 h.2).1

pub start-step : (w : WorldState) (s t : StartState) (bytes : List ℕ) (slots : List (Option Flight)) → can_start w ≡ true → s ≡ resumed w.start w.start.phase → t ≡ asked s
    → (next_frame s ≡ Send → IsFrame bytes (bare_payload (frame_of (action_of s) s.next)))
    → slots ≡ filled (first_flight bytes s.next ∷ []) w.slots → IsStep w StartNext (starting w t slots) true
start-step w s t bytes slots can is after written put =
    let h = to-send w s can is in
    let number : s.next ≡ w.start.next = h.1 in
    let more = left s h.0 h.2 in
    record {
      can = sym can;
      happens = λ m. record {
        bytes = bytes;
        spelled = subst (λ (ds : List Datagram). IsFrame bytes (bare_payload ds))
            (ap (λ (x : StartState). frame_of (action_of x) s.next) is ∙ ap (λ (n : ℕ). frame_of (action_of (resumed w.start w.start.phase)) n) number) (written more.1);
        is = ap (λ (x : StartState). starting w x slots) (after ∙ (more.0 ∙ ap sending is))
            ∙ ap (λ (xs : List (Option Flight)). starting w (sending (resumed w.start w.start.phase)) xs) (put ∙ ap (λ (n : ℕ). filled (first_flight bytes n ∷ []) w.slots) number);
      };
      refused = λ m. absurd (let z : true ≡ false = m in cc);
    }
