-- A world that starts up goes on starting up: by the laws of one slave.
use Rattle.ec_bringup.proofs.Words.{ℕ, ◌+◌, ◌<◌, ◌≤◌, ◌≡◌, ◌≢◌, ◌==◌, Bool, false, refl, sym, ◌∙◌, subst, inl, inr, arith, List, length, drop, set, length-set, get_or-set_same, get_or-set_other, cases_Bool, cases_lt, cases_eq, lt-ltb, le-ltb, drop_more, drop_all, if_true, if_false, SlaveKind, Datagram, IsDatagram, SlaveState, slave_met, datagram_met, meets-keeps, Action, CountSlaves, script, TooSlow, Verdict, Next, Word, Again, Aside, Fails, Heard, Option, polled, Failed, Idle, Device, verdict, StartState, action_of, type_of, advanced, judged, taken, with_identity, Config, Stage, Up, Fits, after, FrameLaw, Leads, AreAhead, AllMet, IsUnderWay, Instant, Between, UnderWay, Adrift, Over, IsReady, Starts, LaterLaw, TakeLaw, SlaveLaw, IsOfKind, Stands, Arrives, MayRepeat, MayEnd, Met, with_passed, with_start, with_slave, Carried, Starting, no_slave, slave_at, trouble_at, kind_at, AreSlaves, Before, true, Some, ap, if◌then◌else◌, slice_get, step_of, is_fed, FeedPart, Feed, Fed, Counter, AreFeedsOf, IsFeedOf, IsFeeding, Feeding, FeedLaw, FedLaw, IsLeft, with_outputs_written, with_memory, planned, IsNamed, AreNamed, IsGone, awaiting, manager_at, SyncManager, switched_on, SlavePlan}
use Rattle.ec_bringup.proofs.OneSlave.Alike.{Alike, set-front, stands-alike}
use Rattle.ec_bringup.proofs.Script.FedSteps.{HasAllSet, Acts, Own, Part, acts, all-set, fed-ahead, own-step}

-- ---- a frame passes a slave

pub set_one : (P : ℕ → SlaveState → Type 0) (ss : List SlaveState) (k : ℕ) (t : SlaveState) (i : ℕ) → k < length ss
    → (i ≡ k → P k t) → (i ≢ k → P i (slave_at ss i)) → P i (slave_at (set ss k t) i)
set_one P ss k t i l mine others = elim (cases_eq i k) [
  | inl e ↦ subst (λ (n : ℕ). P n (slave_at (set ss k t) n)) (sym e) (subst (P k) (sym (get_or-set_same ss k t no_slave l)) (mine e))
  | inr ne ↦ subst (P i) (sym (get_or-set_other ss k i t no_slave ne)) (others ne)
]

pub pass-slaves : SlaveLaw → (w : Starting) (c : Carried) → c.passed < length w.start.plan → AreSlaves w → AreSlaves (with_passed w c)
pass-slaves law w c l h = record {
  slaves = length-set w.slaves c.passed _ ∙ h.slaves;
  troubles = h.troubles;
  few = h.few;
  each = λ i b. set_one (λ n s. IsOfKind (kind_at w.start.plan n) s) w.slaves c.passed _ i (let e = h.slaves in omega arith)
      (λ _. law (kind_at w.start.plan c.passed) (slave_at w.slaves c.passed) c.datagram (h.each c.passed l))
      (λ _. h.each i b);
}

pub pass-met : FrameLaw → LaterLaw → (w : Starting) (c : Carried) (stages : ℕ → Stage) → c.passed < length w.start.plan → length w.slaves ≡ length w.start.plan → length w.start.plan ≤ 64
    → ((i : ℕ) → i < length w.start.plan → Fits i (stages i) (step_of w.start) × IsNamed (kind_at w.start.plan i) i (step_of w.start)) → IsDatagram c.datagram
    → Arrives (step_of w.start) c.number c.passed c.datagram
    → AllMet w.start.plan stages w.troubles w.slaves (step_of w.start) c.passed c.datagram
    → AllMet w.start.plan stages w.troubles (with_passed w c).slaves (step_of w.start) (c.passed + 1) (datagram_met (slave_at w.slaves c.passed) c.datagram)
    × Arrives (step_of w.start) c.number (c.passed + 1) (datagram_met (slave_at w.slaves c.passed) c.datagram)
pass-met law later w c stages l e few fits good arrives met =
    let j : ℕ = c.passed in
    let a : Action = step_of w.start in
    let s : SlaveState = slave_at w.slaves j in
    let d : Datagram = c.datagram in
    let stands : Stands (kind_at w.start.plan j) j (stages j) (trouble_at w.troubles j) s = met.to_come j (omega arith) l in
    let b : j < 64 = omega arith in
    let here = law (kind_at w.start.plan j) j (stages j) (trouble_at w.troubles j) a c.number d s b good (fits j l).0 (fits j l).1 arrives stands in
    let room : j < length w.slaves = omega arith in (
      record {
        passed = λ i k. set_one (λ n t. Met (kind_at w.start.plan n) n (stages n) (trouble_at w.troubles n) a (datagram_met s d) t) w.slaves j (slave_met s d) i room
            (λ _. here.0)
            (λ ne. let below : i < j = omega (arith, ne, k) in
            later (kind_at w.start.plan i) i (stages i) (trouble_at w.troubles i) (kind_at w.start.plan j) j (stages j) (trouble_at w.troubles j) a c.number d (slave_at w.slaves i) s
            below b (fits j l).0 good arrives stands (met.passed i below));
        to_come = λ i k m. set_one (λ n t. Stands (kind_at w.start.plan n) n (stages n) (trouble_at w.troubles n) t) w.slaves j (slave_met s d) i room
            (λ q. absurd (let z : i ≡ j = q in omega (arith, z, k)))
            (λ ne. met.to_come i (omega arith) m);
      },
      here.1,
    )

fits_now : (w : Starting) (ends : ℕ → Config) (stages : ℕ → Stage) → w.start.place < length (script w.start.plan)
    → AreAhead w.start.plan (drop w.start.place (script w.start.plan)) ends stages
    → (i : ℕ) → i < length w.start.plan → Fits i (stages i) (step_of w.start) × Leads i (after i (stages i) (step_of w.start)) (drop (w.start.place + 1) (script w.start.plan)) (Up (ends i))
fits_now w ends stages l ahead i b = subst (λ (xs : List Action). Leads i (stages i) xs (Up (ends i))) (drop_more (script w.start.plan) w.start.place CountSlaves l) (ahead.each i b)

named_now : (w : Starting) (ends : ℕ → Config) (stages : ℕ → Stage) → w.start.place < length (script w.start.plan)
    → AreAhead w.start.plan (drop w.start.place (script w.start.plan)) ends stages
    → (i : ℕ) → i < length w.start.plan → IsNamed (kind_at w.start.plan i) i (step_of w.start) × AreNamed (kind_at w.start.plan i) i (drop (w.start.place + 1) (script w.start.plan))
named_now w ends stages l ahead i b =
    subst (λ (xs : List Action). AreNamed (kind_at w.start.plan i) i xs) (drop_more (script w.start.plan) w.start.place CountSlaves l) (ahead.named i b)

-- the frame passes the next slave
pub pass-starts : SlaveLaw → FrameLaw → LaterLaw → (ends : ℕ → Config) (w : Starting) → AreSlaves w → AreFeedsOf w.start.plan w.start.feeds → (u : IsUnderWay ends w)
    → u.carried.passed < length w.start.plan → Starts ends (with_passed w u.carried)
pass-starts keeps law later ends w h fed u l =
    let c : Carried = u.carried in
    let s : SlaveState = slave_at w.slaves c.passed in
    let next = pass-met law later w c u.stages l h.slaves h.few (λ i b. ((fits_now w ends u.stages u.inside u.ahead i b).0, (named_now w ends u.stages u.inside u.ahead i b).0)) u.good u.arrives u.met in
    record {
      slaves = pass-slaves keeps w c l h;
      feeds = fed;
      instant = UnderWay (record {
        acts = u.acts;
        carried = record { number = c.number; passed = c.passed + 1; datagram = datagram_met s c.datagram };
        sent = u.sent;
        full = refl;
        inside = u.inside;
        few = omega arith;
        stages = u.stages;
        ahead = u.ahead;
        good = (meets-keeps s c.datagram u.good).0;
        arrives = next.1;
        met = next.0;
      });
    }

-- ---- a frame that feeds a part passes the next slave: each stands where it stood

-- a slave that is left as it was, but for awaited outputs, stands where it stood
written-alike : (s : SlaveState) → length s.managers ≡ 4 → Alike s (with_outputs_written s)
written-alike s four = record {
  kind = refl;
  room = refl;
  memory = λ a l. refl;
  managers = set-front s.managers 2 (awaiting (manager_at s.managers 2) false) (omega (arith, four)) (record { settings = refl; locked = refl; mail = refl }) (λ e. refl);
  idle = λ e. e;
  objects = record { kind = refl; identity = refl; outs = refl; ins = refl; values = refl };
}

pub left-stands : (kind : SlaveKind) (i : ℕ) (st : Stage) (trouble : Bool) (s t : SlaveState) → IsLeft s t → (IsGone st s → t ≡ s) → Stands kind i st trouble s → Stands kind i st trouble t
left-stands kind i st trouble s t (inl e) gone h = subst (λ (x : SlaveState). Stands kind i st trouble x) (sym e) h
left-stands kind i st trouble s t (inr e) gone h =
    subst (λ (x : SlaveState). Stands kind i st trouble x) (sym e)
    (stands-alike kind i st trouble s (with_outputs_written s) (written-alike s h.slave.four) refl (λ g. sym e ∙ gone g) h)

-- what the script leaves in slave i is what its plan has
pub record AllSetAt (ps : List SlavePlan) (ends : ℕ → Config) (i : ℕ) : Type 0 where
  pub managers : (ends i).managers ≡ (planned ps i).managers
  pub fmmus : (ends i).fmmus ≡ (planned ps i).fmmus

-- of a slave that is gone nothing is awaited, so it is left as it was
gone-left : (i : ℕ) (c : Config) (s t : SlaveState) → IsLeft s t → IsGone (Up c) s → t ≡ s
gone-left i c s t (inl e) g = e
gone-left i c s t (inr e) g =
    let ms = ap (λ (x : SlaveState). x.managers) g ∙ (switched_on s.kind s.identity).managers in
    e ∙ ap (λ (x : List SyncManager). with_memory s s.memory x) (ap (λ (x : List SyncManager). set x 2 (awaiting (manager_at x 2) false)) ms ∙ sym ms)

-- which part it is
fed-which : (s : StartState) (f : Feed) → action_of s ≡ FeedPart f → (is_fed (step_of s) ≡ true) × (slice_get s.feeds s.fed ≡ Some f)
fed-which s f e = by (acts s)
  where
    by : Acts s → (is_fed (step_of s) ≡ true) × (slice_get s.feeds s.fed ≡ Some f)
    by (Own q none) = absurd (own-step s.plan s.place f (sym q ∙ e))
    by (Part g q b p) = (b, p ∙ ap Some (let z : FeedPart g ≡ FeedPart f = sym q ∙ e in cc))

pub feed-passes : SlaveLaw → FeedLaw → (ends : ℕ → Config) (w : Starting) → AreSlaves w → AreFeedsOf w.start.plan w.start.feeds → ((i : ℕ) → i < length w.start.plan → AllSetAt w.start.plan ends i)
    → (u : IsFeeding ends w) → u.carried.passed < length w.start.plan → Starts ends (with_passed w u.carried)
feed-passes keeps law ends w h fed sets u l =
    let c : Carried = u.carried in
    let j : ℕ = c.passed in
    let s : SlaveState = slave_at w.slaves j in
    let which = fed-which w.start u.feed u.feeds in
    let all : HasAllSet (u.stages j) (ends j) = all-set j (u.stages j) (drop w.start.place (script w.start.plan)) (ends j) (fed-ahead w.start.plan w.start.place u.inside which.0) (u.ahead.each j l) in
    let own : IsFeedOf w.start.plan u.feed = fed.each w.start.fed u.feed which.1 in
    let set : AllSetAt w.start.plan ends j = sets j l in
    let stood : Stands (kind_at w.start.plan j) j (Up all.config) (trouble_at w.troubles j) s
    = subst (λ (x : Stage). Stands (kind_at w.start.plan j) j x (trouble_at w.troubles j) s) all.at (u.stand.each j l) in
    let met = law w.start.plan u.feed c.number j all.config (trouble_at w.troubles j) c.datagram s own l h.few u.good (all.set.managers ∙ set.managers) (all.set.fmmus ∙ set.fmmus) u.arrives stood in
    let room : j < length w.slaves = let e = h.slaves in omega arith in
    record {
      slaves = pass-slaves keeps w c l h;
      feeds = fed;
      instant = Feeding (record {
        feed = u.feed;
        feeds = u.feeds;
        carried = record { number = c.number; passed = j + 1; datagram = datagram_met s c.datagram };
        sent = u.sent;
        full = refl;
        inside = u.inside;
        few = omega arith;
        stages = u.stages;
        ahead = u.ahead;
        good = (meets-keeps s c.datagram u.good).0;
        arrives = met.1;
        stand = record {
          each = λ i b. set_one (λ n t. Stands (kind_at w.start.plan n) n (u.stages n) (trouble_at w.troubles n) t) w.slaves j (slave_met s c.datagram) i room
              (λ _. subst (λ (x : Stage). Stands (kind_at w.start.plan j) j x (trouble_at w.troubles j) (slave_met s c.datagram)) (sym all.at)
              (left-stands (kind_at w.start.plan j) j (Up all.config) (trouble_at w.troubles j) s (slave_met s c.datagram) met.0 (λ g. gone-left j all.config s (slave_met s c.datagram) met.0 g) stood))
              (λ ne. u.stand.each i b);
        };
      });
    }

-- ---- the frame returns

-- the action is done: the next one, or the end
done-starts : (ends : ℕ → Config) (w : Starting) (seen : Device) → AreSlaves w → AreFeedsOf w.start.plan w.start.feeds → (u : IsUnderWay ends w) → u.carried.passed ≡ length w.start.plan
    → MayEnd (step_of w.start) u.carried.datagram → Starts ends (with_start w (advanced w.start seen))
done-starts ends w seen h fed u e m =
    let stood : (i : ℕ) → i < length w.start.plan → Stands (kind_at w.start.plan i) i (after i (u.stages i) (step_of w.start)) (trouble_at w.troubles i) (slave_at w.slaves i)
    = λ i b. (u.met.passed i (omega (arith, e, b))).ended m in
    let leads = λ (i : ℕ) (b : i < length w.start.plan). (fits_now w ends u.stages u.inside u.ahead i b).1 in
    let names = λ (i : ℕ) (b : i < length w.start.plan). (named_now w ends u.stages u.inside u.ahead i b).1 in
    record {
      slaves = record { slaves = h.slaves; troubles = h.troubles; few = h.few; each = h.each };
      feeds = fed;
      instant = elim (cases_lt (w.start.place + 1) (length (script w.start.plan))) [
        | inl l ↦ Between (record {
          idle = if_true _ _ _ (lt-ltb _ _ l);
          empty = refl;
          inside = l;
          stages = λ i. after i (u.stages i) (step_of w.start);
          ahead = record { each = leads; named = names };
          stand = record { each = stood };
        })
        | inr l ↦ IsReady (record {
          ready = if_false _ _ _ (le-ltb _ _ l);
          empty = refl;
          stand = record {
            each = λ i b.
                let end : after i (u.stages i) (step_of w.start) ≡ Up (ends i)
                = subst (λ (xs : List Action). Leads i (after i (u.stages i) (step_of w.start)) xs (Up (ends i))) (drop_all (w.start.place + 1) (script w.start.plan) l) (leads i b) in
                subst (λ (st : Stage). Stands (kind_at w.start.plan i) i st (trouble_at w.troubles i) (slave_at w.slaves i)) end (stood i b);
          };
        })
      ];
    }

-- the wait goes on, whatever was heard
again-starts : (ends : ℕ → Config) (w : Starting) (heard : Option Heard) → AreSlaves w → AreFeedsOf w.start.plan w.start.feeds → (u : IsUnderWay ends w) → u.carried.passed ≡ length w.start.plan
    → MayRepeat (step_of w.start) u.carried.datagram → Starts ends (with_start w (polled (record w.start { heard = heard })))
again-starts ends w heard h fed u e m =
    let s : StartState = record w.start { heard = heard } in
    elim (cases_Bool (w.start.polls + 1 == 1000)) [
      | inl y ↦ subst (λ (x : StartState). Starts ends (with_start w x)) (sym (if_true (w.start.polls + 1 == 1000) (record s { phase = Failed (TooSlow w.start.place) }) (record s { fed = 0; polls = w.start.polls + 1; phase = Idle }) y)) (record {
        slaves = record { slaves = h.slaves; troubles = h.troubles; few = h.few; each = h.each };
        feeds = fed;
        instant = Over (record { failure = TooSlow w.start.place; failed = refl });
      })
      | inr n ↦ subst (λ (x : StartState). Starts ends (with_start w x)) (sym (if_false (w.start.polls + 1 == 1000) (record s { phase = Failed (TooSlow w.start.place) }) (record s { fed = 0; polls = w.start.polls + 1; phase = Idle }) n)) (record {
        slaves = record { slaves = h.slaves; troubles = h.troubles; few = h.few; each = h.each };
        feeds = fed;
        instant = Between (record {
          idle = refl;
          empty = refl;
          inside = u.inside;
          stages = u.stages;
          ahead = u.ahead;
          stand = record { each = λ i b. (u.met.passed i (omega (arith, e, b))).repeated m };
        });
      })
    ]

-- a start-up after the answer to a frame of an action
abbrev judged_at : StartState → Action → Datagram → StartState
judged_at s a d = judged s (verdict (length s.plan) s.place s.seen (type_of s.plan) a d)

pub take-starts : TakeLaw → FedLaw → (ends : ℕ → Config) (w : Starting) → AreSlaves w → AreFeedsOf w.start.plan w.start.feeds → (u : IsUnderWay ends w) → u.carried.passed ≡ length w.start.plan
    → Starts ends (with_start w (taken w.start u.carried.datagram))
take-starts law parts ends w h fed u e =
    subst (λ (a : Action). Starts ends (with_start w (judged_at w.start a u.carried.datagram))) (sym u.acts)
    (by (verdict (length w.start.plan) w.start.place w.start.seen (type_of w.start.plan) (step_of w.start) u.carried.datagram) refl)
  where
    by : (v : Verdict) → verdict (length w.start.plan) w.start.place w.start.seen (type_of w.start.plan) (step_of w.start) u.carried.datagram ≡ v → Starts ends (with_start w (judged w.start v))
    by Next q = done-starts ends w w.start.seen h fed u e ((law (length w.start.plan) w.start.place w.start.seen w.start.plan (step_of w.start) u.carried.datagram).0 q)
    by (Word value) q = done-starts ends w (with_identity w.start (action_of w.start) value) h fed u e ((law (length w.start.plan) w.start.place w.start.seen w.start.plan (step_of w.start) u.carried.datagram).1 value q)
    by Again q = again-starts ends w w.start.heard h fed u e ((law (length w.start.plan) w.start.place w.start.seen w.start.plan (step_of w.start) u.carried.datagram).2 q)
    by (Aside heard) q = again-starts ends w (Some heard) h fed u e ((law (length w.start.plan) w.start.place w.start.seen w.start.plan (step_of w.start) u.carried.datagram).3 heard q)
    -- no step of a script feeds a part
    by Fed q = let p = parts (length w.start.plan) w.start.place w.start.seen w.start.plan (step_of w.start) u.carried.datagram q in absurd (own-step w.start.plan w.start.place p.0 p.1)
    by (Fails f) q = record {
      slaves = record { slaves = h.slaves; troubles = h.troubles; few = h.few; each = h.each };
      feeds = fed;
      instant = Over (record { failure = f; failed = refl });
    }

-- a part was fed: the next one, or the step's own frame
pub feed-returns : (ends : ℕ → Config) (w : Starting) → AreSlaves w → AreFeedsOf w.start.plan w.start.feeds → (u : IsFeeding ends w) → Starts ends (with_start w (taken w.start u.carried.datagram))
feed-returns ends w h fed u =
    subst (λ (a : Action). Starts ends (with_start w (judged_at w.start a u.carried.datagram))) (sym u.feeds) (by (u.carried.datagram.counter == u.feed.counter))
  where
    by : (b : Bool) → Starts ends (with_start w (judged w.start (if b then Fed else Fails (Counter w.start.place))))
    by true = record {
      slaves = record { slaves = h.slaves; troubles = h.troubles; few = h.few; each = h.each };
      feeds = fed;
      instant = Between (record { idle = refl; empty = refl; inside = u.inside; stages = u.stages; ahead = u.ahead; stand = u.stand });
    }
    by false = record {
      slaves = record { slaves = h.slaves; troubles = h.troubles; few = h.few; each = h.each };
      feeds = fed;
      instant = Over (record { failure = Counter w.start.place; failed = refl });
    }

-- ---- a slave does something by itself

-- whatever stage it stands at, it stands there after it
pub record Keeps (kind : SlaveKind) (before : Bool) (s : SlaveState) (later : Bool) (t : SlaveState) : Type 0 where
  pub slave : IsOfKind kind s → IsOfKind kind t
  pub stands : (i : ℕ) (st : Stage) → Stands kind i st before s → Stands kind i st later t

pub keeps-by : {kind : SlaveKind} {before : Bool} {s : SlaveState} {later : Bool} {t : SlaveState} → ((i : ℕ) (st : Stage) → Stands kind i st before s → Stands kind i st later t)
    → Keeps kind before s later t
keeps-by f = record { slave = λ h. (f 0 Before (record { slave = h; at = inl tt })).slave; stands = f }

trouble_one : (P : ℕ → Bool → SlaveState → Type 0) (ts : List Bool) (ss : List SlaveState) (k : ℕ) (b : Bool) (t : SlaveState) (i : ℕ) → k < length ts → k < length ss
    → (i ≡ k → P k b t) → (i ≢ k → P i (trouble_at ts i) (slave_at ss i)) → P i (trouble_at (set ts k b) i) (slave_at (set ss k t) i)
trouble_one P ts ss k b t i l m mine others = elim (cases_eq i k) [
  | inl e ↦ subst (λ (n : ℕ). P n (trouble_at (set ts k b) n) (slave_at (set ss k t) n)) (sym e)
      (subst (λ (x : Bool). P k x (slave_at (set ss k t) k)) (sym (get_or-set_same ts k b false l))
      (subst (P k b) (sym (get_or-set_same ss k t no_slave m)) (mine e)))
  | inr ne ↦ subst (λ (x : Bool). P i x (slave_at (set ss k t) i)) (sym (get_or-set_other ts k i b false ne))
      (subst (P i (trouble_at ts i)) (sym (get_or-set_other ss k i t no_slave ne)) (others ne))
]

pub slave-starts : (ends : ℕ → Config) (w : Starting) (k : ℕ) (t : SlaveState) (b : Bool) → k < length w.start.plan
    → Keeps (kind_at w.start.plan k) (trouble_at w.troubles k) (slave_at w.slaves k) b t → Starts ends w → Starts ends (with_slave w k t b)
slave-starts ends w k t b l keeps h =
    let ls : k < length w.slaves = let e = h.slaves.slaves in omega arith in
    let lt : k < length w.troubles = let e = h.slaves.troubles in omega arith in
    record {
      slaves = record {
        slaves = length-set w.slaves k t ∙ h.slaves.slaves;
        troubles = length-set w.troubles k b ∙ h.slaves.troubles;
        few = h.slaves.few;
        each = λ i m. set_one (λ n s. IsOfKind (kind_at w.start.plan n) s) w.slaves k t i ls (λ _. keeps.slave (h.slaves.each k l)) (λ _. h.slaves.each i m);
      };
      feeds = h.feeds;
      instant = at h.instant ls lt;
    }
  where
    one : (stages : ℕ → Stage) → k < length w.slaves → k < length w.troubles → (i : ℕ)
        → (i ≡ k → Stands (kind_at w.start.plan k) k (stages k) (trouble_at w.troubles k) (slave_at w.slaves k))
        → (i ≢ k → Stands (kind_at w.start.plan i) i (stages i) (trouble_at w.troubles i) (slave_at w.slaves i))
        → Stands (kind_at w.start.plan i) i (stages i) (trouble_at (set w.troubles k b) i) (slave_at (set w.slaves k t) i)
    one stages ls lt i mine others = trouble_one (λ n x s. Stands (kind_at w.start.plan n) n (stages n) x s) w.troubles w.slaves k b t i lt ls
        (λ e. keeps.stands k (stages k) (mine e)) others

    at : Instant ends w → k < length w.slaves → k < length w.troubles → Instant ends (with_slave w k t b)
    at (Between h) ls lt = Between (record {
      idle = h.idle;
      empty = h.empty;
      inside = h.inside;
      stages = h.stages;
      ahead = h.ahead;
      stand = record { each = λ i m. one h.stages ls lt i (λ e. h.stand.each k l) (λ ne. h.stand.each i m) };
    })
    at (Feeding h) ls lt = Feeding (record {
      feed = h.feed;
      feeds = h.feeds;
      carried = h.carried;
      sent = h.sent;
      full = h.full;
      inside = h.inside;
      few = h.few;
      stages = h.stages;
      ahead = h.ahead;
      good = h.good;
      arrives = h.arrives;
      stand = record { each = λ i m. one h.stages ls lt i (λ e. h.stand.each k l) (λ ne. h.stand.each i m) };
    })
    at (UnderWay h) ls lt = UnderWay (record {
      acts = h.acts;
      carried = h.carried;
      sent = h.sent;
      full = h.full;
      inside = h.inside;
      few = h.few;
      stages = h.stages;
      ahead = h.ahead;
      good = h.good;
      arrives = h.arrives;
      met = record {
        passed = λ i m. trouble_one (λ n x s. Met (kind_at w.start.plan n) n (h.stages n) x (step_of w.start) h.carried.datagram s) w.troubles w.slaves k b t i lt ls
            (λ e. let own = h.met.passed k (subst (λ (n : ℕ). n < h.carried.passed) e m) in record {
              other = λ o. keeps.stands k (h.stages k) (own.other o);
              repeated = λ o. keeps.stands k (h.stages k) (own.repeated o);
              ended = λ o. keeps.stands k (after k (h.stages k) (step_of w.start)) (own.ended o);
            })
            (λ ne. h.met.passed i m);
        to_come = λ i m n. one h.stages ls lt i (λ e. h.met.to_come k (subst (λ (n : ℕ). h.carried.passed ≤ n) e m) l) (λ ne. h.met.to_come i m n);
      };
    })
    at (Adrift h) ls lt = Adrift (record { number = h.number; sent = h.sent; empty = h.empty })
    at (Over h) ls lt = Over (record { failure = h.failure; failed = h.failed })
    at (IsReady h) ls lt = IsReady (record {
      ready = h.ready;
      empty = h.empty;
      stand = record { each = λ i m. one (λ n. Up (ends n)) ls lt i (λ e. h.stand.each k l) (λ ne. h.stand.each i m) };
    })
