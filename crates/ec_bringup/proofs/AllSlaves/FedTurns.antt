-- A frame that feeds a part, past all slaves of an undisturbed start-up: it counts as it is expected to, each slave stands where it
-- stood, and the outputs that it wrote are awaited no more.
use Rattle.ec_bringup.proofs.Words.{ℕ, zero, suc, ◌+◌, ◌*◌, ◌%◌, ◌<◌, ◌≤◌, ◌≡◌, Bool, true, false, Some, refl, sym, ◌∙◌, ap, subst, inl, inr, arith, if◌then◌else◌, List, [], ◌∷◌, length, map, get_or, set, get_or-set_same, slice_get, both_ways, cases_eq, eq-eqb, if_true, SlaveKind, SyncManager, no_manager, manager_at, awaiting, SlaveState, Al, Sii, Init, PreOp, SafeOp, Op, Datagram, IsDatagram, slave_met, datagram_met, meets-keeps, served, settles, SlavePlan, Feed, FeedPart, datagram_of, verdict, Fed, Action, AskState, AwaitState, Config, Stage, Up, Stays, Stands, IsUpAt, planned, span_of_feed, IsFeedOf, IsFeedAt, IsLeft, with_outputs_written, all_passed, all_met, is_fed, Fits, Rise, Falls, Climbs, IsAtInit, WantedDevice, Device, Buffer, Applied, Rests, Reads, Writes, from_bool}
use Rattle.ec_fmmu.specs.Areas.{Spans}
use Rattle.ec_link.specs.Meaning.{area_of}
use Rattle.ec_link.specs.Interface.{has_outs, has_ins}
use Rattle.ec_bringup.specs.Fed.{IsPredicted, IsCountedIn, Within, Outside, sum_up}
use Rattle.ec_bringup.proofs.OneFrame.FeedLaw.{FeedGoes, goes, feed_law}
use Rattle.ec_bringup.proofs.OneFrame.OtherSlaves.{IsFor, ForAwaitState}
use Rattle.ec_bringup.proofs.OneSlave.Dry.{dry-at-met, dry-at-served}
use Rattle.ec_bringup.proofs.OneSlave.MailboxServed.{stands-served}
use Rattle.ec_bringup.proofs.OneSlave.AwaitedKept.{awaited-kept, not-gone}
use Rattle.ec_bringup.proofs.Script.FedSteps.{HasAllSet, IsRunning}
use Rattle.ec_bringup.proofs.StartUp.Keeps.{left-stands}
use Rattle.ec_bringup.proofs.AllSlaves.Delays.{IsAskedInit, reached-of}
use Rattle.ec_bringup.proofs.AllSlaves.NextAction.{Sure, Bless, climbs-met, climbs-served}
use Rattle.ec_bringup.proofs.AllSlaves.FramePasses.{Each, spelled-on}
use Rattle.ec_bringup.proofs.AllSlaves.Applications.{Stood, with_buffer}

-- ---- how few it counts

share-few : (f : Feed) (p : SlavePlan) (share : ℕ) → IsCountedIn f p share → share ≤ 3
share-few f p share (Within spans lrw e) = subst (λ (n : ℕ). n ≤ 3) (sym e) (by f.split (has_outs p.share) (has_ins p.share))
  where
    by : (x o n : Bool) → (if x then from_bool o else from_bool n + 2 * from_bool o) ≤ 3
    by true true n = omega arith
    by true false n = omega arith
    by false true true = omega arith
    by false true false = omega arith
    by false false true = omega arith
    by false false false = omega arith
share-few f p share (Outside w e) = omega (arith, e)

sum-few : (f : Feed) (ps : List SlavePlan) (j : ℕ) (hs : List ℕ) → ((k : ℕ) → k < length hs → IsCountedIn f (planned ps (j + k)) (get_or hs k 0)) → sum_up hs ≤ 3 * length hs
sum-few f ps j [] h = omega arith
sum-few f ps j (n ∷ hs) h =
    let first = share-few f (planned ps (j + 0)) n (h 0 (omega arith)) in
    let rest = sum-few f ps (j + 1) hs (λ k l. let z : j + suc k ≡ j + 1 + k = omega arith in subst (λ (x : ℕ). IsCountedIn f (planned ps x) (get_or hs k 0)) z (h (suc k) (omega (arith, l)))) in
    omega (arith, first, rest)

-- ---- a slave while parts are fed

-- the outputs that the first parts had are awaited no more
pub record IsFedBy (ps : List SlavePlan) (fs : List Feed) (n i : ℕ) (s : SlaveState) : Type 0 where
  pub each : (k : ℕ) (f : Feed) → k < n → slice_get fs k ≡ Some f → Spans (span_of_feed f) (area_of (planned ps i)) → 0 < (planned ps i).share.outs → (manager_at s.managers 2).awaited ≡ false

pub fed-none : (ps : List SlavePlan) (fs : List Feed) (i : ℕ) (s : SlaveState) → IsFedBy ps fs 0 i s
fed-none ps fs i s = record { each = λ k f l e sp some. absurd (omega (arith, l)) }

-- an application changes buffers alone
buffered-off : (s : SlaveState) (n : ℕ) (b : Buffer) → (manager_at s.managers 2).awaited ≡ false → (manager_at (with_buffer s n b).managers 2).awaited ≡ false
buffered-off s n b h = by (set-awaited s.managers n 2 b)
  where
    by : (manager_at (with_buffer s n b).managers 2).awaited ≡ (manager_at s.managers 2).awaited → (manager_at (with_buffer s n b).managers 2).awaited ≡ false
    by e = e ∙ h

    set-awaited : (ms : List SyncManager) (k j : ℕ) (x : Buffer) → (manager_at (set ms k (record (manager_at ms k) { buffer = x })) j).awaited ≡ (manager_at ms j).awaited
    set-awaited [] k j x = refl
    set-awaited (m ∷ ms) zero zero x = refl
    set-awaited (m ∷ ms) zero (suc j) x = refl
    set-awaited (m ∷ ms) (suc k) zero x = refl
    set-awaited (m ∷ ms) (suc k) (suc j) x = set-awaited ms k j x

pub fed-applied : (ps : List SlavePlan) (fs : List Feed) (n i : ℕ) (s t : SlaveState) → Applied s t → IsFedBy ps fs n i s → IsFedBy ps fs n i t
fed-applied ps fs n i s t (Rests _) h = h
fed-applied ps fs n i s t (Reads _ _ view run on) h =
    fed-applied ps fs n i _ t on (record { each = λ k f l e sp some. buffered-off s 2 (record (manager_at s.managers 2).buffer { view = view }) (h.each k f l e sp some) })
fed-applied ps fs n i s t (Writes _ _ inputs run on) h =
    fed-applied ps fs n i _ t on (record { each = λ k f l e sp some. buffered-off s 3 inputs (h.each k f l e sp some) })

left-al : (s t : SlaveState) → IsLeft s t → t.al ≡ s.al
left-al s t (inl e) = ap (λ (x : SlaveState). x.al) e
left-al s t (inr e) = ap (λ (x : SlaveState). x.al) e

left-sii : (s t : SlaveState) → IsLeft s t → t.sii ≡ s.sii
left-sii s t (inl e) = ap (λ (x : SlaveState). x.sii) e
left-sii s t (inr e) = ap (λ (x : SlaveState). x.sii) e

-- no slave that parts are fed for is in INIT
running-high : (r : Rise) → IsRunning r → IsAtInit r → ⊥
running-high Falls run at = run
running-high (Stays Init) run at = run
running-high (Stays PreOp) run at = run
running-high (Stays SafeOp) run at = at
running-high (Stays Op) run at = at
running-high (Climbs from to) run at = at

-- what is shown before a step that is fed is shown still
sure-fed : (kind : SlaveKind) (i : ℕ) (st : Stage) (x : Al) (more here : ℕ) (a : Action) (s t : SlaveState) → is_fed a ≡ true → Fits i st a → Bless kind i st a → t.al ≡ s.al
    → ((manager_at s.managers 2).awaited ≡ false → (manager_at t.managers 2).awaited ≡ false) → Stands kind i st false t → Sure kind i x more here a s → Sure kind i x more (here + 1) a (served t)
sure-fed kind i st x more here (AskState y to) s t f fits bless e keep stood h = tt
sure-fed kind i (Up c) x more here (AwaitState y to) s t f fits bless e keep stood h = λ q.
    let can = fits.2 q in
    let grants = bless (subst (λ (z : ℕ). IsFor i (AwaitState z to)) (sym q) (ForAwaitState i to)) in
    climbs-served kind i c to (here + 1) t stood can.1 can.0 grants (climbs-met kind to (here + 1) s t e keep (h q))
sure-fed kind i _ x more here (AwaitState y to) s t f fits bless e keep stood h = absurd fits.1
sure-fed kind i _ x more here _ s t f fits bless e keep stood h = absurd (both_ways false refl f)

-- ---- past all slaves

module _ (ps : List SlavePlan) (fs : List Feed) (ends : ℕ → Config) (stages : ℕ → Stage) (xs : ℕ → Al) (sent more here : ℕ) (f : Feed) (n number : ℕ) (a : Action)
    (feed : IsFeedOf ps f) (found : slice_get fs n ≡ Some f) (few : length ps ≤ 64) (fed : is_fed a ≡ true)
    (sets : (i : ℕ) → i < length ps → ((ends i).managers ≡ (planned ps i).managers) × ((ends i).fmmus ≡ (planned ps i).fmmus) × ((ends i).rise ≡ Stays Op))
    (all : (i : ℕ) → i < length ps → HasAllSet (stages i) (ends i)) (asks : (i : ℕ) → i < length ps → Fits i (stages i) a × Bless (planned ps i).kind i (stages i) a) where
  abbrev kind_of : ℕ → SlaveKind
  kind_of i = (planned ps i).kind

  -- before the frame
  pub record Waits (i : ℕ) (s : SlaveState) : Type 0 where
    pub stood : Stood (kind_of i) i (stages i) (xs i) sent more here a s
    pub fed_by : IsFedBy ps fs n i s

  -- behind it, and behind a step of the firmware
  pub record Goes (i : ℕ) (s : SlaveState) : Type 0 where
    pub stood : Stood (kind_of i) i (stages i) (xs i) (sent + 1) more (here + 1) a s
    pub fed_by : IsFedBy ps fs (n + 1) i s

  -- one slave
  one : (i share : ℕ) (d : Datagram) (s : SlaveState) → i < length ps → IsDatagram d → IsFeedAt ps f number i d → IsCountedIn f (planned ps i) share → Waits i s
      → ((datagram_met s d).counter ≡ (d.counter + share) % 65536) × Goes i (served (slave_met s d)) × IsFeedAt ps f number (i + 1) (datagram_met s d)
  one i share d s l good at counted w =
      let h : HasAllSet (stages i) (ends i) = all i l in
      let e = sets i l in
      let em : h.config.managers ≡ (planned ps i).managers = h.set.managers ∙ e.0 in
      let ef : h.config.fmmus ≡ (planned ps i).fmmus = h.set.fmmus ∙ e.1 in
      let stood : Stands (kind_of i) i (Up h.config) false s = subst (λ (x : Stage). Stands (kind_of i) i x false s) h.at w.stood.stands in
      let up : IsUpAt i h.config s = reached-of (kind_of i) i (Up h.config) s stood in
      let t : SlaveState = slave_met s d in
      let met = feed_law ps f number i h.config false d s feed l few good em ef at stood in
      let g : FeedGoes ps f number i h.config d s feed l good em ef at share = goes ps f number i h.config d s feed l good em ef at share stood.slave.four stood.slave.kind_is up counted in
      let left : IsLeft s t = met.0 in
      let stands : Stands (kind_of i) i (Up h.config) false t = left-stands (kind_of i) i (Up h.config) false s t left (λ gone. absurd (not-gone i h.config s up gone)) stood in
      let calm : (manager_at t.managers 2).awaited ≡ false → (manager_at (served t).managers 2).awaited ≡ false
      = awaited-kept (kind_of i) i h.config t (h.rise e.2) (reached-of (kind_of i) i (Up h.config) t stands) stands.slave in (
        g.counter,
        record {
          stood = record {
            stands = subst (λ (x : Stage). Stands (kind_of i) i x false (served t)) (sym h.at) (stands-served (kind_of i) i (Up h.config) false t stands);
            spelled = spelled-on (kind_of i) s (served t) ((settles t).image ∙ ap (λ (x : Sii). x.image) (left-sii s t left)) w.stood.spelled;
            sure = sure-fed (kind_of i) i (stages i) (xs i) more here a s t fed (asks i l).0 (asks i l).1 (left-al s t left) (left-off s t left stood.slave.four)
                (subst (λ (x : Stage). Stands (kind_of i) i x false t) (sym h.at) stands) w.stood.sure;
            late = λ low. absurd (running-high h.config.rise (h.rise e.2) (subst IsAskedInit h.at low));
            dry = dry-at-served (stages i) t stands.slave.four (dry-at-met (stages i) s d w.stood.dry);
          };
          fed_by = record {
            each = λ k x b e2 sp some. calm (elim (cases_eq k n) [
              | inl z ↦
                  let same : Some x ≡ Some f = sym e2 ∙ (ap (slice_get fs) z ∙ found) in
                  let q : x ≡ f = cc in
                  ap (λ (y : SlaveState). (manager_at y.managers 2).awaited) (g.written (subst (λ (y : Feed). Spans (span_of_feed y) (area_of (planned ps i))) q sp) some) ∙ written-off s stood.slave.four
              | inr ne ↦ left-off s t left stood.slave.four (w.fed_by.each k x (omega (arith, b, ne)) e2 sp some)
            ]);
          };
        },
        met.1,
      )
    where
      -- nothing is awaited of outputs that were written
      written-off : (x : SlaveState) → length x.managers ≡ 4 → (manager_at (with_outputs_written x).managers 2).awaited ≡ false
      written-off x four = ap (λ (m : SyncManager). m.awaited) (get_or-set_same x.managers 2 (awaiting (manager_at x.managers 2) false) no_manager (omega (arith, four)))

      left-off : (x y : SlaveState) → IsLeft x y → length x.managers ≡ 4 → (manager_at x.managers 2).awaited ≡ false → (manager_at y.managers 2).awaited ≡ false
      left-off x y (inl q) four h = ap (λ (z : SlaveState). (manager_at z.managers 2).awaited) q ∙ h
      left-off x y (inr q) four h = ap (λ (z : SlaveState). (manager_at z.managers 2).awaited) q ∙ written-off x four

  pub all-pass : (j : ℕ) (hs : List ℕ) (d : Datagram) (ss : List SlaveState) → j + length ss ≡ length ps → length hs ≡ length ss → IsDatagram d → IsFeedAt ps f number j d
      → ((k : ℕ) → k < length hs → IsCountedIn f (planned ps (j + k)) (get_or hs k 0)) → Each Waits j ss
      → ((all_passed ss d).counter ≡ (d.counter + sum_up hs) % 65536) × Each Goes j (map served (all_met ss d))
  all-pass j [] d [] size same good at counted w = (let g = good.counter in omega (arith, g), tt)
  all-pass j (h ∷ hs) d [] size same good at counted w = absurd (omega (arith, same))
  all-pass j [] d (s ∷ ss) size same good at counted w = absurd (omega (arith, same))
  all-pass j (h ∷ hs) d (s ∷ ss) size same good at counted w =
      let z : j + 0 ≡ j = omega arith in
      let first = one j h d s (omega (arith, size)) good at (subst (λ (x : ℕ). IsCountedIn f (planned ps x) h) z (counted 0 (omega arith))) w.0 in
      let rest = all-pass (j + 1) hs (datagram_met s d) ss (omega (arith, size)) (omega (arith, same)) (meets-keeps s d good).0 first.2
      (λ k l. let q : j + suc k ≡ j + 1 + k = omega arith in subst (λ (x : ℕ). IsCountedIn f (planned ps x) (get_or hs k 0)) q (counted (suc k) (omega (arith, l)))) w.1 in (
        let a0 = first.0 in let a1 = rest.0 in omega (arith, a0, a1),
        (first.1, rest.1),
      )

  -- the whole frame: what comes back is the verdict that the part was fed
  pub fed-back : (ss : List SlaveState) (step : ℕ) (seen : Device) (types : ℕ → WantedDevice) → length ss ≡ length ps → IsPredicted ps f → IsDatagram (datagram_of (FeedPart f) number)
      → IsFeedAt ps f number 0 (datagram_of (FeedPart f) number) → Each Waits 0 ss
      → (verdict (length ps) step seen types (FeedPart f) (all_passed ss (datagram_of (FeedPart f) number)) ≡ Fed)
      × Each Goes 0 (map served (all_met ss (datagram_of (FeedPart f) number)))
  fed-back ss step seen types size p good at w =
      let as_many = p.as_many in
      let counted : (k : ℕ) → k < length p.shares → IsCountedIn f (planned ps (0 + k)) (get_or p.shares k 0)
      = λ k l. let z : k ≡ 0 + k = omega arith in subst (λ (x : ℕ). IsCountedIn f (planned ps x) (get_or p.shares k 0)) z (p.each k (omega (arith, l, as_many))) in
      let all = all-pass 0 p.shares (datagram_of (FeedPart f) number) ss (omega (arith, size)) (omega (arith, as_many, size)) good at counted w in
      let small = sum-few f ps 0 p.shares counted in
      let counter : (all_passed ss (datagram_of (FeedPart f) number)).counter ≡ f.counter
      = let c = all.0 in let s = p.sum in let z : (datagram_of (FeedPart f) number).counter ≡ 0 = refl in omega (arith, c, s, z, small, as_many, few) in
      (if_true _ _ _ (eq-eqb _ f.counter counter), all.1)
