-- Every run of a world that starts up: up to the step that makes it ready, and from then on without a cycle.
use Rattle.ec_bringup.proofs.Words.{ℕ, ◌<◌, ◌≤◌, ◌≡◌, ◌==◌, Bool, true, false, Option, Some, None, refl, sym, ◌∙◌, ap, subst, inl, inr, arith, List, [], ◌∷◌, length, get_or, replicate, drop, cases_Bool, and_parts, eqb-true, length-replicate, if_true, if_false, SlaveKind, Datagram, IsDatagram, SlaveState, power_on, slave_met, datagram_met, passes as passes_all, SlavePlan, datagram_of, name_datagram, script, StartError, Lost, StartState, sending, action_of, taken, begun, Ready, Failed, Config, Talk, Stage, Before, Up, end_of, Leads, AreAhead, IsBetween, Instant, Between, UnderWay, Adrift, Over, IsReady, Starts, IsOfKind, IsConfigured, IsSilent, IsUpAt, IsFaultedAt, Talks, Stands, IsStartable, Carried, Starting, slave_at, trouble_at, kind_at, no_plan, AreSlaves, is_idle, is_beginning, with_passed, with_start, with_sent, with_begun, with_empty, with_lost, AreStartable, ends_of, Happens, Sends, Passes, Loses, Returns, Strays, Closes, Serves, Puts, Gets, Faults, Resets, Runs, Stops, Steps, Begins, HoldsAll, Works, HasFault, SlaveHealth, Working, Faulted, WasReset, StartUpLaw, IsNew, taken_same, Idle, IsUnderWay, ◌⊎◌, IsOver, step_of, Action, Arrives, Sent, Feed, AreFeedsOf, IsFeedAt, IsFeeding, Feeding, opened, is_hardware, ◌++◌}
use Rattle.ec_bringup.proofs.AllSlaves.RoundLaw.{two-pass}
use Rattle.ec_bringup.proofs.OneSlave.Reset.{reset_stands}
use Rattle.ec_bringup.proofs.OneSlave.Fault.{fault-stands, put-stands, got-stands}
use Rattle.ec_bringup.proofs.OneSlave.MailboxServed.{stands-served}
use Rattle.ec_bringup.proofs.OneFrame.FrameLaw.{pass-law, later-law, take-law, fed-law}
use Rattle.ec_bringup.proofs.OneFrame.FeedLaw.{feed_law, feed-sets-out}
use Rattle.ec_bringup.proofs.Script.FedSteps.{Acts, Own, Part, acts}
use Rattle.ec_bringup.proofs.OneSlave.SlaveLaw.{slave-law}
use Rattle.ec_bringup.proofs.Mailbox.Assignments.{assignment-held}
use Rattle.ec_bringup.proofs.Script.Walks.{script-leads, script-named, asked-frame}
use Rattle.ec_bringup.proofs.StartUp.Keeps.{AllSetAt, feed-passes, feed-returns, pass-starts, pass-slaves, take-starts, slave-starts, keeps-by}
use Rattle.ec_bringup.proofs.AllSlaves.FramePasses.{sets-out}

-- ---- a frame is sent

-- the first frame clears the flags: whatever slaves stood at, a start-up leads them from before its first action on
abbrev cleared : Starting → Starting
cleared w = record { start = w.start; slaves = w.slaves; troubles = replicate (length w.start.plan) false; slot = w.slot }

from-before : (ps : List SlavePlan) (i : ℕ) (st end : Stage) → i < length ps → Leads i st (script ps) end → Leads i Before (script ps) end
from-before [] i st end l h = absurd (omega (arith, l))
from-before (p ∷ ps) i st end l h = (tt, past (is_hardware (p ∷ ps)) _ h.1)
  where
    -- the second action is the request for INIT, with `hardware` and without
    past : (b : Bool) (xs : List Action) → Leads i st (opened b ++ xs) end → Leads i Before (opened b ++ xs) end
    past true xs k = k
    past false xs k = k

cleared-between : (ends : ℕ → Config) (w : Starting) → AreSlaves w → IsBetween ends w → w.start.place ≡ 0 → IsBetween ends (cleared w)
cleared-between ends w h b e = record {
  idle = b.idle;
  empty = b.empty;
  inside = b.inside;
  stages = λ i. Before;
  ahead = record {
    named = b.ahead.named;
    each = λ i l. subst (λ (k : ℕ). Leads i Before (drop k (script w.start.plan)) (Up (ends i))) (sym e)
        (from-before w.start.plan i (b.stages i) (Up (ends i)) l (subst (λ (k : ℕ). Leads i (b.stages i) (drop k (script w.start.plan)) (Up (ends i))) e (b.ahead.each i l)));
  };
  stand = record { each = λ i l. record { slave = h.each i l; at = inl tt } };
}

-- with these flags
abbrev sent-with : Starting → List Bool → Starting
sent-with w flags = record {
  start = sending w.start;
  slaves = w.slaves;
  troubles = flags;
  slot = Some (record { number = w.start.next; passed = 0; datagram = datagram_of (action_of w.start) w.start.next });
}

sent-between : (ends : ℕ → Config) (w : Starting) → AreSlaves w → AreFeedsOf w.start.plan w.start.feeds → IsDatagram (datagram_of (action_of w.start) w.start.next) → IsBetween ends w → Starts ends (sent-with w w.troubles)
sent-between ends w h fed good b = by (acts w.start)
  where
    by : Acts w.start → Starts ends (sent-with w w.troubles)
    by (Own own none) = record {
      slaves = record { slaves = h.slaves; troubles = h.troubles; few = h.few; each = h.each };
      feeds = fed;
      instant = UnderWay (record {
        acts = own;
        carried = record { number = w.start.next; passed = 0; datagram = datagram_of (action_of w.start) w.start.next };
        sent = refl;
        full = refl;
        inside = b.inside;
        few = omega arith;
        stages = b.stages;
        ahead = b.ahead;
        good = good;
        arrives = subst (λ (a : Action). Arrives (step_of w.start) w.start.next 0 (datagram_of a w.start.next)) (sym own) (sets-out (step_of w.start) w.start.next);
        met = record { passed = λ i l. absurd (omega (arith, l)); to_come = λ i l m. b.stand.each i m };
      });
    }
    by (Part f feeds on which) = record {
      slaves = record { slaves = h.slaves; troubles = h.troubles; few = h.few; each = h.each };
      feeds = fed;
      instant = Feeding (record {
        feed = f;
        feeds = feeds;
        carried = record { number = w.start.next; passed = 0; datagram = datagram_of (action_of w.start) w.start.next };
        sent = refl;
        full = refl;
        inside = b.inside;
        few = omega arith;
        stages = b.stages;
        ahead = b.ahead;
        good = good;
        arrives = subst (λ (a : Action). IsFeedAt w.start.plan f w.start.next 0 (datagram_of a w.start.next)) (sym feeds) (feed-sets-out w.start.plan f w.start.next);
        stand = b.stand;
      });
    }

sent-starts : (ends : ℕ → Config) (w : Starting) → AreSlaves w → AreFeedsOf w.start.plan w.start.feeds → IsDatagram (datagram_of (action_of w.start) w.start.next) → IsBetween ends w → Starts ends (with_sent w)
sent-starts ends w h fed good b = elim (cases_Bool (is_beginning w.start)) [
  | inl on ↦
      let place : w.start.place ≡ 0 = eqb-true w.start.place 0 (and_parts (is_idle w.start.phase) (w.start.place == 0) on).1 in
      subst (λ (flags : List Bool). Starts ends (sent-with w flags)) (sym (if_true (is_beginning w.start) (replicate (length w.start.plan) false) w.troubles on))
      (sent-between ends (cleared w) (record { slaves = h.slaves; troubles = length-replicate {A = Bool} (length w.start.plan) false; few = h.few; each = h.each })
      fed good (cleared-between ends w h b place))
  | inr off ↦
      subst (λ (flags : List Bool). Starts ends (sent-with w flags)) (sym (if_false (is_beginning w.start) (replicate (length w.start.plan) false) w.troubles off))
      (sent-between ends w h fed good b)
]

-- ---- a start-up begins, in a new world or after a failure

some-script : (ps : List SlavePlan) → 0 < length (script ps)
some-script [] = omega arith
some-script (p ∷ ps) = omega arith

script-ahead : (ps : List SlavePlan) → length ps ≤ 64 → AreStartable ps → AreAhead ps (script ps) (ends_of ps) (λ i. Before)
script-ahead [] few h = record { each = λ i l. absurd (omega (arith, l)); named = λ i l. absurd (omega (arith, l)) }
script-ahead (p ∷ ps) few h = record {
  each = λ i l. script-leads no_plan p ps i l few (h.each i l) (h.alike i l);
  named = λ i l. script-named no_plan p ps i (h.each i l).numbered (h.each i l).has_fmmus (λ e. (h.each i l).faceless (h.alike i l ∙ e));
}

pub begun-starts : (w : Starting) → AreSlaves w → AreFeedsOf w.start.plan w.start.feeds → AreStartable w.start.plan → Starts (ends_of w.start.plan) (with_begun w)
unfolding begun
begun-starts w h fed planned = record {
  slaves = record { slaves = h.slaves; troubles = h.troubles; few = h.few; each = h.each };
  feeds = fed;
  instant = Between (record {
    idle = refl;
    empty = refl;
    inside = some-script w.start.plan;
    stages = λ i. Before;
    ahead = script-ahead w.start.plan h.few planned;
    stand = record { each = λ i l. record { slave = h.each i l; at = inl tt } };
  });
}

-- ---- the events of a world that starts up

over : (ends : ℕ → Config) (v : Starting) (f : StartError) → AreSlaves v → AreFeedsOf v.start.plan v.start.feeds → v.start.phase ≡ Failed f → Starts ends v
over ends v f h fed e = record { slaves = h; feeds = fed; instant = Over (record { failure = f; failed = e }) }

same-slaves : (w : Starting) (s : StartState) (o : Option Carried) → s.plan ≡ w.start.plan → AreSlaves w → AreSlaves (record { start = s; slaves = w.slaves; troubles = w.troubles; slot = o })
same-slaves w s o e h = record {
  slaves = h.slaves ∙ ap length (sym e);
  troubles = h.troubles ∙ ap length (sym e);
  few = subst (λ (ps : List SlavePlan). length ps ≤ 64) (sym e) h.few;
  each = subst (λ (ps : List SlavePlan). (i : ℕ) → i < length ps → IsOfKind (kind_at ps i) (slave_at w.slaves i)) (sym e) h.each;
}

between-of : (ends : ℕ → Config) (w : Starting) → w.start.phase ≡ Idle → Instant ends w → IsBetween ends w
between-of ends w idle (Between b) = b
between-of ends w idle (UnderWay b) = absurd (cc (sym idle ∙ b.sent))
between-of ends w idle (Feeding b) = absurd (cc (sym idle ∙ b.sent))
between-of ends w idle (Adrift b) = absurd (cc (sym idle ∙ b.sent))
between-of ends w idle (Over b) = absurd (cc (sym idle ∙ b.failed))
between-of ends w idle (IsReady b) = absurd (cc (sym idle ∙ b.ready))

-- a frame in the slot is under way, feeding a part or not, or the start-up has failed
full-of : (ends : ℕ → Config) (w : Starting) (c : Carried) → w.slot ≡ Some c → Instant ends w
    → ((u : IsUnderWay ends w) × (u.carried ≡ c)) ⊎ (((u : IsFeeding ends w) × (u.carried ≡ c)) ⊎ IsOver w)
full-of ends w c full (UnderWay b) = inl (b, (cc (sym b.full ∙ full)))
full-of ends w c full (Feeding b) = inr (inl (b, (cc (sym b.full ∙ full))))
full-of ends w c full (Over b) = inr (inr b)
full-of ends w c full (Between b) = absurd (cc (sym b.empty ∙ full))
full-of ends w c full (Adrift b) = absurd (cc (sym b.empty ∙ full))
full-of ends w c full (IsReady b) = absurd (cc (sym b.empty ∙ full))

-- the outstanding frame is lost
adrift : (ends : ℕ → Config) (w : Starting) (number : ℕ) → Starts ends w → w.start.phase ≡ Sent number → Starts ends (with_empty w)
adrift ends w number h sent = record { slaves = same-slaves w w.start None refl h.slaves; feeds = h.feeds; instant = Adrift (record { number = number; sent = sent; empty = refl }) }

pub happens-starts : (ends : ℕ → Config) (w v : Starting) → ((i : ℕ) → i < length w.start.plan → AllSetAt w.start.plan ends i) → Happens w v → Starts ends w → Starts ends v
happens-starts ends w v sets (Sends idle good e) h = subst (Starts ends) (sym e) (sent-starts ends w h.slaves h.feeds good (between-of ends w idle h.instant))
happens-starts ends w v sets (Passes c full l e) h = subst (Starts ends) (sym e) (elim (full-of ends w c full h.instant) [
  | inl (u, q) ↦
      subst (λ (x : Carried). Starts ends (with_passed w x)) q
      (pass-starts slave-law pass-law later-law ends w h.slaves h.feeds u (subst (λ (x : Carried). x.passed < length w.start.plan) (sym q) l))
  | inr (inl (u, q)) ↦
      subst (λ (x : Carried). Starts ends (with_passed w x)) q
      (feed-passes slave-law feed_law ends w h.slaves h.feeds sets u (subst (λ (x : Carried). x.passed < length w.start.plan) (sym q) l))
  | inr (inr b) ↦ over ends (with_passed w c) b.failure (pass-slaves slave-law w c l h.slaves) h.feeds b.failed
])
happens-starts ends w v sets (Loses c full e) h = subst (Starts ends) (sym e) (elim (full-of ends w c full h.instant) [
  | inl (u, q) ↦ adrift ends w u.carried.number h u.sent
  | inr (inl (u, q)) ↦ adrift ends w u.carried.number h u.sent
  | inr (inr b) ↦ over ends (with_empty w) b.failure (same-slaves w w.start None refl h.slaves) h.feeds b.failed
])
happens-starts ends w v sets (Returns c full l sent e) h = subst (Starts ends) (sym e) (elim (full-of ends w c full h.instant) [
  | inl (u, q) ↦
      subst (λ (x : Carried). Starts ends (with_start w (taken w.start x.datagram))) q (take-starts take-law fed-law ends w h.slaves h.feeds u (ap (λ (x : Carried). x.passed) q ∙ l))
  | inr (inl (u, q)) ↦ subst (λ (x : Carried). Starts ends (with_start w (taken w.start x.datagram))) q (feed-returns ends w h.slaves h.feeds u)
  | inr (inr b) ↦ absurd (cc (sym sent ∙ b.failed))
])
happens-starts ends w v sets (Strays c f full failed e) h = subst (Starts ends) (sym e) (over ends (with_empty w) f (same-slaves w w.start None refl h.slaves) h.feeds failed)
happens-starts ends w v sets (Closes number sent e) h = subst (Starts ends) (sym e) (over ends (with_lost w) Lost (same-slaves w (record w.start { phase = Failed Lost }) w.slot refl h.slaves) h.feeds refl)
happens-starts ends w v sets (Serves k l e) h =
    subst (Starts ends) (sym e) (slave-starts ends w k _ _ l (keeps-by (λ i st. stands-served (kind_at w.start.plan k) i st (trouble_at w.troubles k) (slave_at w.slaves k))) h)
happens-starts ends w v sets (Puts k place byte l e) h =
    subst (Starts ends) (sym e) (slave-starts ends w k _ _ l (keeps-by (λ i st. put-stands (kind_at w.start.plan k) i st (trouble_at w.troubles k) (slave_at w.slaves k) place byte)) h)
happens-starts ends w v sets (Gets k place l e) h =
    subst (Starts ends) (sym e) (slave-starts ends w k _ _ l (keeps-by (λ i st. got-stands (kind_at w.start.plan k) i st (trouble_at w.troubles k) (slave_at w.slaves k) place)) h)
happens-starts ends w v sets (Faults k l op e) h =
    subst (Starts ends) (sym e) (slave-starts ends w k _ _ l (keeps-by (λ i st. fault-stands (kind_at w.start.plan k) i st (trouble_at w.troubles k) (slave_at w.slaves k) op)) h)
happens-starts ends w v sets (Resets k l e) h =
    subst (Starts ends) (sym e) (slave-starts ends w k _ _ l (keeps-by (λ i st q.
    subst (λ (x : SlaveKind). Stands x i st true (power_on (slave_at w.slaves k).kind (slave_at w.slaves k).identity)) (h.slaves.each k l).kind_is (reset_stands (slave_at w.slaves k).kind (slave_at w.slaves k).identity i st))) h)

-- ---- what a slave holds when the start-up is ready

all-held : (i : ℕ) (p : SlavePlan) (s : SlaveState) → IsStartable p → IsOfKind p.kind s → IsConfigured i (end_of p) s → IsSilent (end_of p) s → HoldsAll i p s
all-held i p s planned slave configured silent =
    let q = assignment-held p p.kind.mailbox s refl planned slave (record { outs = silent.assigned.outs; ins = silent.assigned.ins; came = silent.assigned.came }) in
    record { configured = configured; silent = silent; no_read = configured.idle (asked-frame p p.kind.mailbox).idle; outs = q.0; ins = q.1 }

up-works : (i : ℕ) (p : SlavePlan) (s : SlaveState) → IsStartable p → IsOfKind p.kind s → IsUpAt i (end_of p) s → Works i p s
up-works i p s planned slave u = record {
  holds = all-held i p s planned slave u.configured (subst (λ (o : Option Talk). Talks i (end_of p) o s) (asked-frame p p.kind.mailbox).talk u.talks);
  in_op = u.rises;
  unlocked = u.unlocked;
}

up-fault : (i : ℕ) (p : SlavePlan) (s : SlaveState) → IsStartable p → IsOfKind p.kind s → IsFaultedAt i (end_of p) s → HasFault i p s
up-fault i p s planned slave u = record {
  holds = all-held i p s planned slave u.configured u.silent;
  state = u.state;
  error = u.error;
  no_request = u.no_request;
  locked = u.locked;
  unlocked = u.unlocked;
}

pub stands-shown : (i : ℕ) (p : SlavePlan) (trouble : Bool) (s : SlaveState) → IsStartable p → Stands p.kind i (Up (end_of p)) trouble s → SlaveHealth i p trouble s
stands-shown i p trouble s planned h = elim h.at [
  | inl r ↦ Working (up-works i p s planned h.slave r)
  | inr (t, inl g) ↦ WasReset t g
  | inr (t, inr g) ↦ Faulted t (up-fault i p s planned h.slave g.faulted)
]

-- A world whose start-up is ready: each slave that doesn't work had a fault or a reset in this start-up.
pub ready-shown : (w : Starting) → AreStartable w.start.plan → Starts (ends_of w.start.plan) w → w.start.phase ≡ Ready → (i : ℕ) → i < length w.start.plan
    → SlaveHealth i (get_or w.start.plan i no_plan) (trouble_at w.troubles i) (slave_at w.slaves i)
ready-shown w planned h ready i l = elim h.instant [
  | IsReady b ↦ stands-shown i (get_or w.start.plan i no_plan) (trouble_at w.troubles i) (slave_at w.slaves i) (planned.each i l) (b.stand.each i l)
  | Between b ↦ absurd (cc (sym b.idle ∙ ready))
  | UnderWay b ↦ absurd (cc (sym b.sent ∙ ready))
  | Feeding b ↦ absurd (cc (sym b.sent ∙ ready))
  | Adrift b ↦ absurd (cc (sym b.sent ∙ ready))
  | Over b ↦ absurd (cc (sym b.failed ∙ ready))
]

-- ---- whole runs

pub taken-plan : (s : StartState) (d : Datagram) → (taken s d).plan ≡ s.plan
taken-plan s d = (taken_same s d).plan

pub happens-plan : (w v : Starting) → Happens w v → v.start.plan ≡ w.start.plan
happens-plan w v (Sends idle good e) = ap (λ (x : Starting). x.start.plan) e
happens-plan w v (Passes c full l e) = ap (λ (x : Starting). x.start.plan) e
happens-plan w v (Loses c full e) = ap (λ (x : Starting). x.start.plan) e
happens-plan w v (Returns c full l sent e) = ap (λ (x : Starting). x.start.plan) e ∙ taken-plan w.start c.datagram
happens-plan w v (Strays c f full failed e) = ap (λ (x : Starting). x.start.plan) e
happens-plan w v (Closes number sent e) = ap (λ (x : Starting). x.start.plan) e
happens-plan w v (Serves k l e) = ap (λ (x : Starting). x.start.plan) e
happens-plan w v (Puts k place byte l e) = ap (λ (x : Starting). x.start.plan) e
happens-plan w v (Gets k place l e) = ap (λ (x : Starting). x.start.plan) e
happens-plan w v (Faults k l op e) = ap (λ (x : Starting). x.start.plan) e
happens-plan w v (Resets k l e) = ap (λ (x : Starting). x.start.plan) e

pub begun-plan : (w : Starting) → (with_begun w).start.plan ≡ w.start.plan
unfolding begun
begun-plan w = refl

-- the script leaves in each slave what its plan has
sets-of : (ps : List SlavePlan) (i : ℕ) → AllSetAt ps (ends_of ps) i
sets-of ps i = record { managers = refl; fmmus = refl }

-- an event of a world that starts up this plan
pub happens-on : (ps : List SlavePlan) (w v : Starting) → w.start.plan ≡ ps → Happens w v → Starts (ends_of ps) w → Starts (ends_of ps) v
happens-on ps w v is e h = happens-starts (ends_of ps) w v (subst (λ (qs : List SlavePlan). (i : ℕ) → i < length qs → AllSetAt qs (ends_of ps) i) (sym is) (λ i l. sets-of ps i)) e h

pub record IsGood (ps : List SlavePlan) (w : Starting) : Type 0 where
  pub plan_is : w.start.plan ≡ ps
  pub starts : Starts (ends_of ps) w

pub runs-good : (ps : List SlavePlan) → AreStartable ps → (w v : Starting) → Runs w v → IsGood ps w → IsGood ps v
runs-good ps planned w v (Stops x) h = h
runs-good ps planned w v (Steps x u y e r) h =
    runs-good ps planned u v r (record { plan_is = happens-plan w u e ∙ h.plan_is; starts = happens-on ps w u h.plan_is e h.starts })
runs-good ps planned w v (Begins x y f failed empty r) h =
    runs-good ps planned (with_begun w) v r (record {
      plan_is = begun-plan w ∙ h.plan_is;
      starts = subst (λ (qs : List SlavePlan). Starts (ends_of qs) (with_begun w)) h.plan_is (begun-starts w h.starts.slaves h.starts.feeds (subst AreStartable (sym h.plan_is) planned));
    })

pub new-good : (ps : List SlavePlan) (fs : List Feed) → AreStartable ps → AreFeedsOf ps fs → (w : Starting) → IsNew ps fs w → IsGood ps w
new-good ps fs planned fed w new = record {
  plan_is = new.plan_is;
  starts = subst (λ (x : Starting). Starts (ends_of ps) x) (sym new.start)
      (subst (λ (qs : List SlavePlan). Starts (ends_of qs) (with_begun w)) new.plan_is
      (begun-starts w new.slaves (subst (λ (qs : List SlavePlan). AreFeedsOf qs w.start.feeds) (sym new.plan_is) (subst (λ (gs : List Feed). AreFeedsOf ps gs) (sym new.feeds_are) fed)) (subst AreStartable (sym new.plan_is) planned)));
}

pub start-up : StartUpLaw
start-up ps fs planned fed w v new r ready i l =
    let g : IsGood ps v = runs-good ps planned w v r (new-good ps fs planned fed w new) in
    subst (λ (qs : List SlavePlan). SlaveHealth i (get_or qs i no_plan) (trouble_at v.troubles i) (slave_at v.slaves i)) g.plan_is
    (ready-shown v (subst AreStartable (sym g.plan_is) planned) (subst (λ (qs : List SlavePlan). Starts (ends_of qs) v) (sym g.plan_is) g.starts) ready i (subst (λ (qs : List SlavePlan). i < length qs) (sym g.plan_is) l))

-- ---- a frame's two datagrams at a slave: the first is a NOP, so the second alone counts

pub frame-passes : (s : SlaveState) (number : ℕ) (d : Datagram) → passes_all s (name_datagram number 0 ∷ d ∷ []) ≡ record { slave = slave_met s d; datagrams = name_datagram number 0 ∷ datagram_met s d ∷ [] }
frame-passes s number d = two-pass s number d
