-- Every event keeps a world that starts up one.
use Rattle.ec_world.proofs.Words.{ℕ, zero, suc, ◌+◌, ◌<◌, ◌≤◌, ◌≡◌, ◌≢◌, ◌==◌, ◌||◌, not, Bool, true, false, Option, Some, None, refl, sym, ◌∙◌, ap, subst, inl, inr, arith, if◌then◌else◌, List, [], ◌∷◌, length, set, get_or, option_map, is_some, nat_lt, unwrap_or, cases_Bool, cases_eq, both_ways, and_parts, eqb-true, ltb-true, length-set, list_get_or-set_same as get_or-set_same, list_get_or-set_other as get_or-set_other, State, Op, Identity, SlaveKind, Payload, with_datagrams, bare_payload, SlaveState, power_on, passes, Passed, slave_met, datagram_met, input_put, output_got, output_taken, Got, served, faulted, SlavePlan, nones, MasterState, OpenCycle, IsAnswer, readied, name_datagram, frame_of, datagram_of, StartError, Lost, StartState, action_of, sending, begun, taken, given_up_by, second, Phase, Idle, Sent, Ready, Failed, Config, Starting, Carried, trouble_at, Starts, Between, UnderWay, Adrift, Over, IsReady, Feeding, HasSamePlan, IsCarried, AreStartable, ends_of, flags_sent, with_begun, with_slave_at, SendsNext, PassesOne, LosesOne, ReturnsOne, Strays, ClosesOne, BringupServes as Serves, PutsOne, GetsOne, Faults, Resets, happens-on, begun-starts, frame-passes, Event, StartNext, Set, Begin, Pass, Lose, Return, Close, Serve, AppPut, AppGet, Fault, ResetSlave, Stop, filled, may_pass, may_return, WorldState, Flight, no_slave, slave_of, flight_at, flight_progress, flights_progress, is_up, awaits, phase_awaits, phase_ready, is_slave, can_happen, resumed, ready_with, ByStart, Sends, Passes, Returns, StartReturns, GivesUp, Closes, Happens, with_slave, IsFit, flags_after, IsInSlot, SlotsHold, starting_of, Rising, stay_whole, on_whole, nothing_awaited, stays_outside, get_or-set_default, none_some, some_same, variable_set, filled-none, filled-length, set-get_or, some_of}
use Rattle.ec_world.proofs.StartUp.TurnEvents.{second-good}
use Rattle.ec_world.proofs.SlotLaws.Clearance.{at_set}
use Rattle.ec_frame.specs.Datagram.{Datagram}
use Rattle.ec_start.specs.declared.error.StartError.TheVariants.{TooSlow}
use Rattle.ec_start.specs.declared.verdict.Verdict.{Verdict}
use Rattle.ec_start.specs.declared.verdict.Verdict.TheVariants.{Next, Word, Fed, Again, Aside, Fails}
use Rattle.ec_start.specs.Verdicts.{verdict}
use Rattle.ec_start.specs.Running.{judged, type_of}
use Rattle.ec_al.specs.Al as al

-- ---- a start-up keeps its plan and its feeds

same-start : (s : StartState) → HasSamePlan s s
same-start s = record { plan = refl; feeds = refl }

again-same : (s : StartState) (b : Bool) → HasSamePlan s (if b then record s { phase = Failed (TooSlow s.place) } else record s { fed = 0; polls = s.polls + 1; phase = Idle })
again-same s true = record { plan = refl; feeds = refl }
again-same s false = record { plan = refl; feeds = refl }

judged-same : (s : StartState) (v : Verdict) → HasSamePlan s (judged s v)
judged-same s Next = record { plan = refl; feeds = refl }
judged-same s (Word value) = record { plan = refl; feeds = refl }
judged-same s Fed = record { plan = refl; feeds = refl }
judged-same s Again = again-same s (s.polls + 1 == 1000)
judged-same s (Aside heard) = let h = again-same (record s { heard = Some heard }) (s.polls + 1 == 1000) in record { plan = h.plan; feeds = h.feeds }
judged-same s (Fails error) = record { plan = refl; feeds = refl }

taken-same : (s : StartState) (d : Datagram) → HasSamePlan s (taken s d)
taken-same s d = judged-same s (verdict (length s.plan) s.place s.seen (type_of s.plan) (action_of s) d)

-- ---- slots

nones-few : {X : Type 0} (os : List (Option X)) → nones os ≤ length os
nones-few [] = omega arith
nones-few (None ∷ os) = let h = nones-few os in omega arith
nones-few (Some x ∷ os) = let h = nones-few os in omega arith

pub all-none : {X : Type 0} (os : List (Option X)) (k : ℕ) → nones os ≡ length os → get_or os k None ≡ None
all-none [] k e = refl
all-none (None ∷ os) zero e = refl
all-none (None ∷ os) (suc k) e = all-none os k (omega (arith, e))
all-none (Some x ∷ os) k e = absurd (omega (arith, e, nones-few os))

-- one frame goes into the first of free slots
pub record FilledOne {X : Type 0} (x : X) (os : List (Option X)) : Type 0 where
  pub first : get_or (filled (x ∷ []) os) 0 None ≡ Some x
  pub others : (k : ℕ) → k ≢ 0 → get_or (filled (x ∷ []) os) k None ≡ None

filled-one : {X : Type 0} (x : X) (os : List (Option X)) → 0 < length os → ((k : ℕ) → get_or os k None ≡ None) → FilledOne x os
filled-one x [] l h = absurd (omega (arith, l))
filled-one x (Some y ∷ os) l h = absurd (none_some y (sym (h 0)))
filled-one x (None ∷ os) l h = record { first = refl; others = later }
  where
    later : (k : ℕ) → k ≢ 0 → get_or (Some x ∷ filled [] os) k None ≡ None
    later zero ne = absurd (ne refl)
    later (suc k) ne = ap (λ ys. get_or ys k None) (filled-none os) ∙ h (suc k)

emptied : {X : Type 0} (os : List (Option X)) → ((k : ℕ) → k ≢ 0 → get_or os k None ≡ None) → (k : ℕ) → get_or (set os 0 None) k None ≡ None
emptied os h k = elim (cases_eq k 0) [
  | inl e ↦ subst (λ (n : ℕ). get_or (set os 0 None) n None ≡ None) (sym e) (get_or-set_default os 0 None)
  | inr ne ↦ get_or-set_other os 0 k None None ne ∙ h k ne
]

-- the frame of a start-up is in the lowest slot
pub record IsTheOne (slots : List (Option Flight)) (k : ℕ) (flight : Flight) (c : Carried) (i : IsInSlot slots c) : Type 0 where
  pub place : k ≡ 0
  pub same : i.flight ≡ flight

pub the-one : (slots : List (Option Flight)) (k : ℕ) (flight : Flight) (c : Carried) (i : IsInSlot slots c) → get_or slots k None ≡ Some flight → IsTheOne slots k flight c i
the-one slots k flight c i e = elim (cases_eq k 0) [
  | inl z ↦ record { place = z; same = some_same i.flight flight (sym i.first ∙ (ap (λ (n : ℕ). get_or slots n None) (sym z) ∙ e)) }
  | inr ne ↦ absurd (none_some flight (sym (i.others k ne) ∙ e))
]

-- ---- slaves

-- slaves stay fit, whatever happens
pub record StaysFit (s : SlaveState) : Type 0 where
  pub met : (d : Datagram) → IsFit (slave_met s d)
  pub served : IsFit (served s)
  pub faulted : IsFit (faulted s)
  pub put : (i x : ℕ) (t : SlaveState) → input_put s i x ≡ Some t → IsFit t
  pub taken : (i : ℕ) → IsFit (output_taken s (output_got s i))

pub stays_fit : (s : SlaveState) → IsFit s → StaysFit s
stays_fit s h =
    let w = stay_whole s h.whole in
    let a = stays_outside s h.awaits in
    record {
      met = λ d. record { whole = w.met d; awaits = a.met d };
      served = record { whole = w.served; awaits = a.served };
      faulted = record { whole = w.faulted; awaits = a.faulted };
      put = λ i x t e. record { whole = w.put i x t e; awaits = a.put i x t e };
      taken = λ i. record { whole = w.taken i; awaits = a.taken i };
    }

pub on_fit : (kind : SlaveKind) (identity : Identity) → IsFit (power_on kind identity)
on_fit kind identity = record { whole = on_whole kind identity; awaits = nothing_awaited kind identity }

all-set : (P : SlaveState → Type 0) (ss : List SlaveState) (k : ℕ) (t : SlaveState) → ((i : ℕ) → P (get_or ss i no_slave)) → P t → (i : ℕ) → P (get_or (set ss k t) i no_slave)
all-set P ss k t h p i = elim (at_set ss k i t no_slave) [ inl old ↦ subst P (sym old) (h i) | inr new ↦ subst P (sym new.1) p ]

module _ (flags : List Bool) (w : WorldState) (r : Rising flags w) where
  here : (k : ℕ) → is_slave w k ≡ true → k < length w.start.plan
  here k e = let l = ltb-true k (length w.slaves) e in omega (arith, l, r.starts.slaves.slaves)

  -- slaves, slots, flags and what was read last change
  pub settled : (now : List Bool) (slaves : List SlaveState) (slots : List (Option Flight)) (slot : Option Carried) (g : Option ℕ)
      → Starts (ends_of w.plan.slaves) (record { start = w.start; slaves = slaves; troubles = now; slot = slot }) → SlotsHold slots slot → 0 < length slots
      → ((i : ℕ) → IsFit (get_or slaves i no_slave)) → Rising now (record w { slaves = slaves; slots = slots; got = g })
  settled now slaves slots slot g starts hold some fit = search (r, starts, hold, some, fit)

  -- the start-up, the master and the slots change
  pub restarted : (now : List Bool) (s : StartState) (m : MasterState) (slots : List (Option Flight)) (slot : Option Carried) → HasSamePlan w.start s
      → Starts (ends_of w.plan.slaves) (record { start = s; slaves = w.slaves; troubles = now; slot = slot }) → SlotsHold slots slot → 0 < length slots
      → m.plan ≡ w.plan → m.cycle ≡ None → (is_up s ≡ true → m.is_ready ≡ true) → Rising now (record w { start = s; master = m; slots = slots })
  restarted now s m slots slot same starts hold some plan cycle ready = search (same.plan ∙ r.same_plan, same.feeds ∙ r.same_feeds, starts, hold, some, plan, cycle, ready, r)

  -- one slave becomes t, and its flag b
  changed : (k : ℕ) (t : SlaveState) (b : Bool) (g : Option ℕ) → IsFit t → Starts (ends_of w.plan.slaves) (with_slave_at (starting_of w flags r.slot) k t b)
      → Rising (set flags k b) (record (with_slave w k t) { got = g })
  changed k t b g fit starts = settled (set flags k b) (set w.slaves k t) w.slots r.slot g starts r.slots r.some_slots (all-set IsFit w.slaves k t r.fit fit)

  unflagged : (k : ℕ) (t : SlaveState) (g : Option ℕ) → IsFit t → Starts (ends_of w.plan.slaves) (with_slave_at (starting_of w flags r.slot) k t (trouble_at flags k))
      → Rising flags (record (with_slave w k t) { got = g })
  unflagged k t g fit starts = subst (λ (fs : List Bool). Rising fs (record (with_slave w k t) { got = g })) (set-get_or flags k false) (changed k t (trouble_at flags k) g fit starts)

  serve-rises : (k : ℕ) → is_slave w k ≡ true → Rising flags (with_slave w k (served (slave_of w k)))
  serve-rises k e = unflagged k (served (slave_of w k)) w.got (stays_fit (slave_of w k) (r.fit k)).served
      (happens-on w.plan.slaves (starting_of w flags r.slot) _ r.same_plan (Serves k (here k e) refl) r.starts)

  put-rises : (k i x : ℕ) (t : SlaveState) → is_slave w k ≡ true → input_put (slave_of w k) i x ≡ Some t → Rising flags (with_slave w k t)
  put-rises k i x t e put = unflagged k t w.got ((stays_fit (slave_of w k) (r.fit k)).put i x t put)
      (subst (λ (s : SlaveState). Starts (ends_of w.plan.slaves) (with_slave_at (starting_of w flags r.slot) k s (trouble_at flags k))) (ap (λ (o : Option SlaveState). unwrap_or o (slave_of w k)) put)
      (happens-on w.plan.slaves (starting_of w flags r.slot) _ r.same_plan (PutsOne k i x (here k e) refl) r.starts))

  fault-rises : (k : ℕ) → is_slave w k ≡ true → (slave_of w k).al.state ≡ Op → Rising (set flags k true) (with_slave w k (faulted (slave_of w k)))
  fault-rises k e op = changed k (faulted (slave_of w k)) true w.got (stays_fit (slave_of w k) (r.fit k)).faulted
      (happens-on w.plan.slaves (starting_of w flags r.slot) _ r.same_plan (Faults k (here k e) op refl) r.starts)

  reset-rises : (k : ℕ) → is_slave w k ≡ true → Rising (set flags k true) (with_slave w k (power_on (slave_of w k).kind (slave_of w k).identity))
  reset-rises k e = changed k (power_on (slave_of w k).kind (slave_of w k).identity) true w.got (on_fit (slave_of w k).kind (slave_of w k).identity)
      (happens-on w.plan.slaves (starting_of w flags r.slot) _ r.same_plan (Resets k (here k e) refl) r.starts)

  get-rises : (k i : ℕ) (g : Got) → is_slave w k ≡ true → output_got (slave_of w k) i ≡ Some g → Rising flags (record (with_slave w k (output_taken (slave_of w k) (Some g))) { got = Some g.byte })
  get-rises k i g e got = unflagged k (output_taken (slave_of w k) (Some g)) (Some g.byte) (subst (λ (o : Option Got). IsFit (output_taken (slave_of w k) o)) got ((stays_fit (slave_of w k) (r.fit k)).taken i))
      (subst (λ (o : Option Got). Starts (ends_of w.plan.slaves) (with_slave_at (starting_of w flags r.slot) k (output_taken (slave_of w k) o) (trouble_at flags k))) got
      (happens-on w.plan.slaves (starting_of w flags r.slot) _ r.same_plan (GetsOne k i (here k e) refl) r.starts))

-- ---- frames

module _ (flags : List Bool) (w : WorldState) (r : Rising flags w) where
  -- with another frame in the slot
  abbrev seen : Option Carried → Starting
  seen slot = starting_of w flags slot

  -- the slots are empty
  with-none : (slots : List (Option Flight)) → 0 < length slots → ((k : ℕ) → get_or slots k None ≡ None) → Starts (ends_of w.plan.slaves) (seen None) → Rising flags (record w { slots = slots })
  with-none slots l none starts = settled flags w r flags w.slaves slots None w.got starts none l r.fit

  set-some : (k : ℕ) (o : Option Flight) → 0 < length (set w.slots k o)
  set-some k o = omega (arith, length-set w.slots k o, r.some_slots)

  lose-by : (slot : Option Carried) (k : ℕ) (flight : Flight) → Starts (ends_of w.plan.slaves) (seen slot) → SlotsHold w.slots slot → flight_at w k ≡ Some flight → Rising flags (record w { slots = set w.slots k None })
  lose-by None k flight starts holds e = absurd (none_some flight (sym (holds k) ∙ e))
  lose-by (Some c) k flight starts holds e =
      subst (λ (n : ℕ). Rising flags (record w { slots = set w.slots n None })) (sym (the-one w.slots k flight c holds e).place)
      (with-none (set w.slots 0 None) (set-some 0 None) (emptied w.slots holds.others) (happens-on w.plan.slaves (seen (Some c)) _ r.same_plan (LosesOne c refl refl) starts))

  lose-rises : (k : ℕ) → is_some (flight_at w k) ≡ true → Rising flags (record w { slots = set w.slots k None })
  lose-rises k e = let f = some_of (flight_at w k) e in lose-by r.slot k f.0 r.starts r.slots f.1

  pass-by : (slot : Option Carried) (k : ℕ) (w2 : WorldState) → Starts (ends_of w.plan.slaves) (seen slot) → SlotsHold w.slots slot → Passes w k w2 → ((flight : Flight) → flight_at w k ≡ Some flight → flight.passed < length w.slaves) → Rising flags w2
  pass-by None k w2 starts holds p few = absurd (none_some p.flight (sym (holds k) ∙ p.there))
  pass-by (Some c) k w2 starts holds p few =
      let one = the-one w.slots k p.flight c holds p.there in
      let place : p.flight.passed ≡ c.passed = ap (λ (f : Flight). f.passed) (sym one.same) ∙ holds.passed in
      let s = slave_of w p.flight.passed in
      let car : IsCarried p.flight.bytes c = subst (λ (f : Flight). IsCarried f.bytes c) one.same holds.carried in
      let load : Payload = car.payload in
      let m : passes s load.datagrams ≡ record { slave = slave_met s c.datagram; datagrams = name_datagram c.number 0 ∷ datagram_met s c.datagram ∷ [] }
      = ap (passes s) car.datagrams ∙ frame-passes s c.number c.datagram in
      let inside : c.passed < length w.start.plan = omega (arith, few p.flight p.there, place, starts.slaves.slaves) in
      let next : Carried = record { number = c.number; passed = c.passed + 1; datagram = datagram_met (slave_of w c.passed) c.datagram } in
      let gone : Flight = record { bytes = p.bytes; number = p.flight.number; part = p.flight.part; passed = p.flight.passed + 1 } in
      let own : IsCarried p.bytes next = subst (λ (n : ℕ). IsCarried p.bytes (record { number = c.number; passed = c.passed + 1; datagram = datagram_met (slave_of w n) c.datagram })) place
      (record { payload = with_datagrams load (passes s load.datagrams).datagrams; spelled = p.passed.frame load car.spelled; datagrams = ap (λ (x : Passed). x.datagrams) m }) in
      let moved : w2.slaves ≡ set w.slaves c.passed (slave_met (slave_of w c.passed) c.datagram)
      = p.passed.slaves load car.spelled ∙ (ap (λ (x : Passed). set w.slaves p.flight.passed x.slave) m ∙ ap (λ (n : ℕ). set w.slaves n (slave_met (slave_of w n) c.datagram)) place) in
      let after : WorldState = record w { slaves = set w.slaves c.passed (slave_met (slave_of w c.passed) c.datagram); slots = set w.slots 0 (Some gone) } in
      let is : w2 ≡ after = p.is ∙ (ap (λ (ss : List SlaveState). record w { slaves = ss; slots = set w.slots k (Some gone) }) moved ∙ ap (λ (n : ℕ). record w { slaves = set w.slaves c.passed (slave_met (slave_of w c.passed) c.datagram); slots = set w.slots n (Some gone) }) one.place) in
      let held : IsInSlot after.slots next = record {
        flight = gone;
        first = get_or-set_same w.slots 0 (Some gone) None r.some_slots;
        others = λ j ne. get_or-set_other w.slots 0 j (Some gone) None ne ∙ holds.others j ne;
        number = ap (λ (f : Flight). f.number) (sym one.same) ∙ holds.number;
        part = ap (λ (f : Flight). f.part) (sym one.same) ∙ holds.part;
        passed = ap (λ (n : ℕ). n + 1) place;
        carried = own;
      } in
      subst (Rising flags) (sym is) (settled flags w r flags after.slaves after.slots (Some next) w.got (happens-on w.plan.slaves (seen (Some c)) _ r.same_plan (PassesOne c refl inside refl) starts) held (set-some 0 (Some gone))
      (all-set IsFit w.slaves c.passed (slave_met (slave_of w c.passed) c.datagram) r.fit ((stays_fit (slave_of w c.passed) (r.fit c.passed)).met c.datagram)))

  pass-few : (k : ℕ) → may_pass (length w.slaves) (flights_progress w.slots) (option_map flight_progress (flight_at w k)) ≡ true → (flight : Flight) → flight_at w k ≡ Some flight → flight.passed < length w.slaves
  pass-few k e flight q =
      let f : may_pass (length w.slaves) (flights_progress w.slots) (Some (flight_progress flight)) ≡ true = ap (λ o. may_pass (length w.slaves) (flights_progress w.slots) (option_map flight_progress o)) (sym q) ∙ e in
      ltb-true flight.passed (length w.slaves) (and_parts (nat_lt flight.passed (length w.slaves)) _ f).0

  pass-rises : (k : ℕ) (w2 : WorldState) → can_happen w (Pass k) ≡ true → Passes w k w2 → Rising flags w2
  pass-rises k w2 can p = pass-by r.slot k w2 r.starts r.slots p (pass-few k can)

-- ---- a frame comes back

-- a start-up that awaits a frame awaits one of some number
some-number : (s : StartState) → awaits s ≡ true → (number : ℕ) × (s.phase ≡ Sent number)
some-number s e = go s.phase refl e
  where
    go : (p : Phase) → s.phase ≡ p → phase_awaits p ≡ true → (number : ℕ) × (s.phase ≡ Sent number)
    go (Sent n) q z = (n, q)
    go _ q z = absurd (let x : false ≡ true = z in cc)

-- the frame that is under way is the one that is awaited
awaited : (ends : ℕ → Config) (v : Starting) (c : Carried) (number : ℕ) → Starts ends v → v.slot ≡ Some c → v.start.phase ≡ Sent number → v.start.phase ≡ Sent c.number
awaited ends v c number h full sent = elim h.instant [
  | Between b ↦ absurd (none_some c (sym b.empty ∙ full))
  | UnderWay b ↦ b.sent ∙ ap (λ (x : Carried). Sent x.number) (some_same b.carried c (sym b.full ∙ full))
  | Feeding b ↦ b.sent ∙ ap (λ (x : Carried). Sent x.number) (some_same b.carried c (sym b.full ∙ full))
  | Adrift b ↦ absurd (none_some c (sym b.empty ∙ full))
  | Over b ↦ absurd (cc (sym b.failed ∙ sent))
  | IsReady b ↦ absurd (none_some c (sym b.empty ∙ full))
]

-- a frame that isn't awaited strayed from a start-up that failed
strayed : (ends : ℕ → Config) (v : Starting) (c : Carried) → Starts ends v → v.slot ≡ Some c → awaits v.start ≡ false → (f : StartError) × (v.start.phase ≡ Failed f)
strayed ends v c h full off = elim h.instant [
  | Between b ↦ absurd (none_some c (sym b.empty ∙ full))
  | UnderWay b ↦ absurd (both_ways _ off (ap (λ (p : Phase). phase_awaits p) b.sent))
  | Feeding b ↦ absurd (both_ways _ off (ap (λ (p : Phase). phase_awaits p) b.sent))
  | Adrift b ↦ absurd (none_some c (sym b.empty ∙ full))
  | Over b ↦ (b.failure, b.failed)
  | IsReady b ↦ absurd (none_some c (sym b.empty ∙ full))
]

module _ (flags : List Bool) (w : WorldState) (r : Rising flags w) (low : is_up w.start ≡ false) where
  -- the master is ready with the start-up
  ready-so : (s : StartState) → is_up s ≡ true → (ready_with w.master s).is_ready ≡ true
  ready-so s up = rw up refl

  -- a start-up that isn't Ready asks nothing of it
  not-so : (s : StartState) → is_up s ≡ false → is_up s ≡ true → w.master.is_ready ≡ true
  not-so s off on = absurd (both_ways _ off on)

  ready-plan : (s : StartState) → (ready_with w.master s).plan ≡ w.plan
  ready-plan s = elim (is_up s) as (λ b. (let m : MasterState = if b then readied w.master s.next else w.master in m.plan) ≡ w.plan) [ true ↦ r.master_plan | false ↦ r.master_plan ]

  ready-cycle : (s : StartState) → (ready_with w.master s).cycle ≡ None
  ready-cycle s = elim (is_up s) as (λ b. (let m : MasterState = if b then readied w.master s.next else w.master in m.cycle) ≡ None) [ true ↦ r.no_cycle | false ↦ r.no_cycle ]

  -- the start-up is another value, and the slots are empty
  with-start-none : (s : StartState) (slots : List (Option Flight)) → HasSamePlan w.start s → 0 < length slots → ((k : ℕ) → get_or slots k None ≡ None)
      → Starts (ends_of w.plan.slaves) (record { start = s; slaves = w.slaves; troubles = flags; slot = None }) → Rising flags (record w { start = s; master = ready_with w.master s; slots = slots })
  with-start-none s slots same l none starts = restarted flags w r flags s (ready_with w.master s) slots None same starts none l (ready-plan s) (ready-cycle s) (ready-so s)

  return-by : (slot : Option Carried) (k : ℕ) (w2 : WorldState) → Starts (ends_of w.plan.slaves) (starting_of w flags slot) → SlotsHold w.slots slot → awaits w.start ≡ true
      → ((flight : Flight) → flight_at w k ≡ Some flight → flight.passed ≡ length w.slaves) → StartReturns w k w2 → Rising flags w2
  return-by None k w2 starts holds on all p = absurd (none_some p.flight (sym (holds k) ∙ p.there))
  return-by (Some c) k w2 starts holds on all p =
      let one = the-one w.slots k p.flight c holds p.there in
      let ends = ends_of w.plan.slaves in
      let v = starting_of w flags (Some c) in
      let car : IsCarried p.flight.bytes c = subst (λ (f : Flight). IsCarried f.bytes c) one.same holds.carried in
      let number = some-number w.start on in
      let sent : w.start.phase ≡ Sent c.number = awaited ends v c number.0 starts refl number.1 in
      let around : c.passed ≡ length w.start.plan = omega (arith, holds.passed, ap (λ (f : Flight). f.passed) one.same, all p.flight p.there, starts.slaves.slaves) in
      let slots = set w.slots 0 None in
      let there : 0 < length slots = omega (arith, length-set w.slots 0 None, r.some_slots) in
      let empty : (j : ℕ) → get_or slots j None ≡ None = emptied w.slots holds.others in
      let gone : (s : StartState) → w2.start ≡ s → w2 ≡ record w { start = s; master = ready_with w.master s; slots = slots }
      = λ s e. p.is ∙ (ap (λ (x : StartState). record w { start = x; master = ready_with w.master x; slots = set w.slots k None }) e ∙ ap (λ (n : ℕ). record w { start = s; master = ready_with w.master s; slots = set w.slots n None }) one.place) in
      elim (cases_Bool p.is_accepted) as (λ _. Rising flags w2) [
        | inl kept ↦
            let new : StartState = taken w.start c.datagram in
            let is : w2.start ≡ new = p.start.kept car.payload c.datagram kept car.spelled (ap second car.datagrams) in
            subst (Rising flags) (sym (gone new is))
            (with-start-none new slots (taken-same w.start c.datagram) there empty (happens-on w.plan.slaves v _ r.same_plan (ReturnsOne c refl around sent refl) starts))
        | inr foreign ↦
            subst (Rising flags) (sym (gone w.start (p.start.foreign foreign)))
            (with-start-none w.start slots (same-start w.start) there empty (happens-on w.plan.slaves v _ r.same_plan (LosesOne c refl refl) starts))
      ]

  no-answer : (bytes : List ℕ) (c : OpenCycle) (k : ℕ) (p : Payload) → IsAnswer w.master c bytes k p → ⊥
  no-answer bytes c k p a = none_some c (sym r.no_cycle ∙ a.is_open)

  stray-by : (slot : Option Carried) (k : ℕ) (w2 : WorldState) → Starts (ends_of w.plan.slaves) (starting_of w flags slot) → SlotsHold w.slots slot → awaits w.start ≡ false → Returns w k w2 → Rising flags w2
  stray-by None k w2 starts holds off p = absurd (none_some p.flight (sym (holds k) ∙ p.there))
  stray-by (Some c) k w2 starts holds off p =
      let one = the-one w.slots k p.flight c holds p.there in
      let ends = ends_of w.plan.slaves in
      let v = starting_of w flags (Some c) in
      let f = strayed ends v c starts refl off in
      let slots = set w.slots 0 None in
      let same : w2.master ≡ w.master = (p.master.foreign (no-answer p.flight.bytes)).1 in
      let gone : w2 ≡ record w { slots = slots }
      = p.is ∙ (ap (λ (m : MasterState). record w { master = m; slots = set w.slots k None }) same ∙ ap (λ (n : ℕ). record w { slots = set w.slots n None }) one.place) in
      subst (Rising flags) (sym gone) (with-none flags w r slots (omega (arith, length-set w.slots 0 None, r.some_slots)) (emptied w.slots holds.others) (happens-on w.plan.slaves v _ r.same_plan (Strays c f.0 refl f.1 refl) starts))

  return-all : (k : ℕ) → may_return (length w.slaves) (option_map flight_progress (flight_at w k)) ≡ true → (flight : Flight) → flight_at w k ≡ Some flight → flight.passed ≡ length w.slaves
  return-all k e flight q = eqb-true flight.passed (length w.slaves) (ap (λ o. may_return (length w.slaves) (option_map flight_progress o)) (sym q) ∙ e)

  return-rises : (k : ℕ) (w2 : WorldState) → can_happen w (Return k) ≡ true → ByStart (awaits w.start) (StartReturns w k w2) (Returns w k w2) → Rising flags w2
  return-rises k w2 can h = elim (cases_Bool (awaits w.start)) [
    | inl on ↦ return-by r.slot k w2 r.starts r.slots on (return-all k can) (subst (λ (b : Bool). ByStart b (StartReturns w k w2) (Returns w k w2)) on h)
    | inr off ↦ stray-by r.slot k w2 r.starts r.slots off (subst (λ (b : Bool). ByStart b (StartReturns w k w2) (Returns w k w2)) off h)
  ]

  -- ---- the start-up is given up

  close-awaits : (is_some w.master.cycle || awaits w.start) ≡ true → awaits w.start ≡ true
  close-awaits e = ap (λ (o : Option OpenCycle). is_some o || awaits w.start) (sym r.no_cycle) ∙ e

  close-rises : (w2 : WorldState) → (is_some w.master.cycle || awaits w.start) ≡ true → ByStart (awaits w.start) (GivesUp w w2) (Closes w w2) → Rising flags w2
  close-rises w2 can h =
      let on = close-awaits can in
      let number = some-number w.start on in
      let up : GivesUp w w2 = subst (λ (b : Bool). ByStart b (GivesUp w w2) (Closes w w2)) on h in
      let lost : StartState = record w.start { phase = Failed Lost } in
      let is : w2 ≡ record w { start = lost } = up ∙ ap (λ (x : StartState). record w { start = x }) (ap (λ (x : Phase). given_up_by w.start x) number.1) in
      subst (Rising flags) (sym is)
      (restarted flags w r flags lost w.master w.slots r.slot (record { plan = refl; feeds = refl }) (happens-on w.plan.slaves (starting_of w flags r.slot) _ r.same_plan (ClosesOne number.0 number.1 refl) r.starts) r.slots r.some_slots r.master_plan r.no_cycle
      (not-so lost refl))

  -- ---- the next frame is sent

  all-empty : (nones w.slots == length w.slots) ≡ true → (k : ℕ) → get_or w.slots k None ≡ None
  all-empty e k = all-none w.slots k (eqb-true (nones w.slots) (length w.slots) e)

  no-slot : (slot : Option Carried) → SlotsHold w.slots slot → ((k : ℕ) → get_or w.slots k None ≡ None) → slot ≡ None
  no-slot None h none = refl
  no-slot (Some c) h none = absurd (none_some h.flight (sym (none 0) ∙ h.first))

  -- what begins anew, or goes on
  pub record Goes (s : StartState) : Type 0 where
    pub idle : s.phase ≡ Idle
    pub next : s.next ≡ w.start.next
    pub plan : HasSamePlan w.start s
    pub starts : Starts (ends_of w.plan.slaves) (record { start = s; slaves = w.slaves; troubles = flags; slot = None })

  anew : (f : StartError) → AreStartable w.plan.slaves → Goes (begun w.start.plan w.start.feeds w.start.next)
  unfolding begun
  anew f planned = record {
    idle = refl;
    next = refl;
    plan = record { plan = refl; feeds = refl };
    starts = subst (λ (ps : List SlavePlan). Starts (ends_of ps) (with_begun (starting_of w flags r.slot))) r.same_plan
        (begun-starts (starting_of w flags r.slot) r.starts.slaves r.starts.feeds (subst AreStartable (sym r.same_plan) planned));
  }

  goes-on : (p : Phase) → w.start.phase ≡ p → awaits w.start ≡ false → AreStartable w.plan.slaves → ((k : ℕ) → get_or w.slots k None ≡ None)
      → Goes (resumed w.start p)
  goes-on Idle e off planned none = record { idle = e; next = refl; plan = same-start w.start; starts = subst (λ (o : Option Carried). Starts (ends_of w.plan.slaves) (starting_of w flags o)) (no-slot r.slot r.slots none) r.starts }
  goes-on (Sent n) e off planned none = absurd (both_ways _ off (ap (λ (q : Phase). phase_awaits q) e))
  goes-on Ready e off planned none = absurd (both_ways _ low (ap (λ (q : Phase). phase_ready q) e))
  goes-on (Failed f) e off planned none = anew f planned

  sends-by : (s : StartState) (w2 : WorldState) → s ≡ resumed w.start w.start.phase → Goes s → ((k : ℕ) → get_or w.slots k None ≡ None) → Sends w w2 → Rising (flags_sent s flags) w2
  sends-by s w2 same g none h =
      let ends = ends_of w.plan.slaves in
      let v : Starting = record { start = s; slaves = w.slaves; troubles = flags; slot = None } in
      let flight : Flight = record { bytes = h.bytes; number = w.start.next; part = 0; passed = 0 } in
      let c : Carried = record { number = s.next; passed = 0; datagram = datagram_of (action_of s) s.next } in
      let load : Payload = bare_payload (frame_of (action_of (resumed w.start w.start.phase)) w.start.next) in
      let told : load.datagrams ≡ frame_of (action_of s) s.next
      = ap (λ (x : StartState). frame_of (action_of x) w.start.next) (sym same) ∙ ap (λ (n : ℕ). frame_of (action_of s) n) (sym g.next) in
      let one = filled-one flight w.slots r.some_slots none in
      let is : w2 ≡ record w { start = sending s; slots = filled (flight ∷ []) w.slots }
      = h.is ∙ ap (λ (x : StartState). record w { start = sending x; slots = filled (flight ∷ []) w.slots }) (sym same) in
      let held : IsInSlot (filled (flight ∷ []) w.slots) c = record {
        flight = flight;
        first = one.first;
        others = one.others;
        number = sym g.next;
        part = refl;
        passed = refl;
        carried = record { payload = load; spelled = h.spelled; datagrams = told };
      } in
      subst (Rising (flags_sent s flags)) (sym is) (restarted flags w r (flags_sent s flags) (sending s) w.master (filled (flight ∷ []) w.slots) (Some c) (record { plan = g.plan.plan; feeds = g.plan.feeds })
      (happens-on w.plan.slaves v _ (g.plan.plan ∙ r.same_plan) (SendsNext g.idle (second-good load.datagrams s.next (datagram_of (action_of s) s.next) h.spelled.each told) refl) g.starts)
      held (omega (arith, filled-length (flight ∷ []) w.slots, r.some_slots)) r.master_plan r.no_cycle (not-so (sending s) refl))

  start-rises : (w2 : WorldState) → AreStartable w.plan.slaves → can_happen w StartNext ≡ true → Sends w w2 → Rising (flags_sent (resumed w.start w.start.phase) flags) w2
  start-rises w2 planned can h =
      let a = and_parts (not (is_up w.start)) _ can in
      let b = and_parts (not (awaits w.start)) _ a.1 in
      let none = all-empty (and_parts (nones w.slots == length w.slots) _ b.1).0 in
      let off : awaits w.start ≡ false = (elim (awaits w.start) as (λ c. not c ≡ true → c ≡ false) [ true ↦ λ e. absurd (let z : false ≡ true = e in cc) | false ↦ λ e. refl ]) b.0 in
      sends-by (resumed w.start w.start.phase) w2 refl (goes-on w.start.phase refl off planned none) none h

  -- ---- any event

  no-begin : can_happen w Begin ≡ true → ⊥
  no-begin e = both_ways _ low (and_parts (is_up w.start) _ e).0

  no-stop : can_happen w Stop ≡ true → ⊥
  no-stop e = both_ways _ low (and_parts (is_up w.start) _ e).0

  in-op : (s : State) → al.is_operational s ≡ true → s ≡ Op
  in-op Op e = refl
  in-op _ e = absurd (let z : false ≡ true = e in cc)

  pub event-rises : (e : Event) (w2 : WorldState) → AreStartable w.plan.slaves → can_happen w e ≡ true → Happens w e w2 → Rising (flags_after w e flags) w2
  event-rises StartNext w2 planned can h = start-rises w2 planned can h
  event-rises (Set v x) w2 planned can h = subst (Rising flags) (sym h)
      (restarted flags w r flags w.start (variable_set w.master v x) w.slots r.slot (same-start w.start) r.starts r.slots r.some_slots r.master_plan r.no_cycle r.master_ready)
  event-rises Begin w2 planned can h = absurd (no-begin can)
  event-rises (Pass k) w2 planned can h = pass-rises flags w r k w2 can h
  event-rises (Lose k) w2 planned can h = subst (Rising flags) (sym h) (lose-rises flags w r k can)
  event-rises (Return k) w2 planned can h = return-rises k w2 can h
  event-rises Close w2 planned can h = close-rises w2 can h
  event-rises (Serve s) w2 planned can h = subst (Rising flags) (sym h) (serve-rises flags w r s can)
  event-rises (AppPut s i x) w2 planned can h = subst (Rising flags) (sym h.is) (put-rises flags w r s i x h.slave (and_parts (is_slave w s) _ can).0 h.put)
  event-rises (AppGet s i) w2 planned can h = subst (Rising flags) (sym h.is) (get-rises flags w r s i h.got (and_parts (is_slave w s) _ can).0 h.read)
  event-rises (Fault s) w2 planned can h = let p = and_parts (is_slave w s) _ can in subst (Rising (set flags s true)) (sym h) (fault-rises flags w r s p.0 (in-op (slave_of w s).al.state p.1))
  event-rises (ResetSlave s) w2 planned can h = subst (Rising (set flags s true)) (sym h) (reset-rises flags w r s can)
  event-rises Stop w2 planned can h = absurd (no-stop can)
