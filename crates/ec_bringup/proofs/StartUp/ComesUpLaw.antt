-- An undisturbed start-up ends Ready.
use Rattle.ec_bringup.proofs.Words.{ℕ, zero, suc, ◌+◌, ◌^◌, ◌<◌, ◌≤◌, ◌≡◌, false, refl, sym, ◌∙◌, subst, inl, arith, List, [], ◌∷◌, length, Device, SlaveState, SlavePlan, CountSlaves, phases, begun, type_of, Before, Up, end_of, Stands, IsIdentity, AreDevices, ArePlans, Rising, unplanned, plan_at, slave_of, rising, TurnsTo, AppliedStays as Stays, Turns, AppliedUpLaw, IsOnItsWay, ComesUpLaw, CompiledUpLaw, IsUpAndWorks, IsBroughtUp, StandsUpLaw, both_ways, Works, SlaveHealth, Working, Faulted, WasReset, plan_of, Feed, feeds_of, frames_up, ArePlansWith, AllAgree, Option, Mailbox, prepared, asked_all, None}
use Rattle.ec_bringup.proofs.Words.{WantedDevice, wanted_of}
use Rattle.ec_bringup.proofs.Script.Walks.{script-walks, script-named, asked-frame}
use Rattle.ec_bringup.proofs.Mailbox.SendRequest.{datagram-good}
use Rattle.ec_bringup.proofs.OneFrame.Commands.{word_of}
use Rattle.ec_bringup.proofs.AllSlaves.FramePasses.{Each}
use Rattle.ec_bringup.proofs.AllSlaves.Applications.{Stood, turns-to}
use Rattle.ec_bringup.proofs.Script.Polls.{al_asked, slow-any}
use Rattle.ec_bringup.proofs.Script.Chained.{phases-chained}
use Rattle.ec_bringup.proofs.Script.IsPath.{IsPath, IsNow, rises, each-none}
use Rattle.ec_bringup.proofs.AllSlaves.NextAction.{Bears}
use Rattle.ec_bringup.proofs.Script.ChecksGranted.{bears-all, no-outputs}
use Rattle.ec_bringup.proofs.Script.CompiledPlansLaw.{are-plans}
use Rattle.ec_bringup.proofs.StartUp.StartUpLaw.{stands-shown}

-- ---- places and lists

each-from : (P : ℕ → SlaveState → Type 0) (j : ℕ) (ss : List SlaveState) → ((k : ℕ) → k < length ss → P (j + k) (slave_of ss k)) → Each P j ss
each-from P j [] h = tt
each-from P j (s ∷ ss) h =
    let z : j + 0 ≡ j = omega arith in (
      subst (λ (x : ℕ). P x s) z (h 0 (omega arith)),
      each-from P (j + 1) ss (λ k l. let w : j + suc k ≡ j + 1 + k = omega arith in subst (λ (x : ℕ). P x (slave_of ss k)) w (h (suc k) (omega (arith, l)))),
    )

each-at : (P : ℕ → SlaveState → Type 0) (j k : ℕ) (ss : List SlaveState) → k < length ss → Each P j ss → P (j + k) (slave_of ss k)
each-at P j k [] l h = absurd (omega (arith, l))
each-at P j zero (s ∷ ss) l h = let z : j ≡ j + 0 = omega arith in subst (λ (x : ℕ). P x s) z h.0
each-at P j (suc k) (s ∷ ss) l h = let w : j + 1 + k ≡ j + suc k = omega arith in subst (λ (x : ℕ). P x (slave_of ss k)) w (each-at P (j + 1) k ss (omega (arith, l)) h.1)

types-of : (ps : List SlavePlan) (t : ℕ) → t < length ps → type_of ps t ≡ wanted_of (plan_at ps t).kind
types-of [] t l = absurd (omega (arith, l))
types-of (p ∷ ps) zero l = refl
types-of (p ∷ ps) (suc t) l = types-of ps t (omega (arith, l))

big-word : (t : Device) (which : ℕ) → IsIdentity t → word_of t which < 2 ^ 32
big-word t zero h = h.vendor
big-word t (suc zero) h = h.product
big-word t (suc (suc which)) h = h.revision

-- ---- the beginning

is-path : (p : SlavePlan) (ps : List SlavePlan) (fs : List Feed) → length (p ∷ ps) ≤ 64 → ArePlansWith (p ∷ ps) fs → IsPath (p ∷ ps) fs (λ i. end_of (plan_at (p ∷ ps) i))
is-path p ps fs few h = record {
  some = omega arith;
  few = few;
  types = λ t l. types-of (p ∷ ps) t l;
  big = λ t which l. subst (λ (x : WantedDevice). word_of x.device which < 2 ^ 32) (sym (types-of (p ∷ ps) t l)) (big-word (plan_at (p ∷ ps) t).kind.device which (h.plans.complete t l).identity);
  slow = slow-any (p ∷ ps) (λ i l. (h.plans.complete i l).slow);
  alike = h.plans.alike;
  feeds = h.feeds;
  predicted = h.predicted;
  sets = λ i l. (refl, refl, refl);
  silent = λ i l. end-silent (plan_at (p ∷ ps) i) (plan_at (p ∷ ps) i).kind.mailbox;
  no_outputs = λ i l s of a z. no-outputs (plan_at (p ∷ ps) i) (h.plans.planned i l) (h.plans.complete i l) s of a z;
}
  where
    end-silent : (q : SlavePlan) (o : Option Mailbox) → (asked_all (prepared q) q o).talk ≡ None
    end-silent q o = (asked-frame q o).talk

is-now : (p : SlavePlan) (ps : List SlavePlan) (fs : List Feed) (from : ℕ) (ss : List SlaveState) → ArePlansWith (p ∷ ps) fs → AllAgree (p ∷ ps) → AreDevices (p ∷ ps) ss
    → IsNow (p ∷ ps) fs ss (λ i. (plan_at (p ∷ ps) i).kind) (λ i. end_of (plan_at (p ∷ ps) i)) (λ i. Before) 0 CountSlaves CountSlaves (phases (p ∷ ps)) (rising (begun (p ∷ ps) fs from) ss)
unfolding begun
is-now p ps fs from ss h agree d = record {
  plan_is = refl;
  feeds_are = refl;
  fed_few = omega arith;
  fed_none = λ e. refl;
  polls_few = omega arith;
  counted = refl;
  idle = refl;
  ahead = refl;
  count = d.count;
  told = tt;
  inside = tt;
  sendable = tt;
  chained = phases-chained (p ∷ ps) (λ i l. record { reach = (h.plans.complete i l).reach; numbered = (h.plans.planned i l).numbered; alike = h.plans.alike i l });
  walks = λ i l. script-walks (Bears (plan_at (p ∷ ps) i).kind) unplanned p ps i l d.few (h.plans.planned i l) (h.plans.alike i l)
      (bears-all i (plan_at (p ∷ ps) i) (h.plans.planned i l) (h.plans.complete i l) (agree.each i l));
  named = λ i l. script-named unplanned p ps i (h.plans.planned i l).numbered (h.plans.planned i l).has_fmmus (λ e. (h.plans.planned i l).faceless (h.plans.alike i l ∙ e));
  fed = each-none (p ∷ ps) fs 0 ss;
  each = each-from (λ i s. Stood (plan_at (p ∷ ps) i).kind i Before (al_asked ss i) 0 0 0 CountSlaves s) 0 ss
      (λ k l.
      let b : k < length (p ∷ ps) = omega (arith, l, d.count) in
      let z : k ≡ 0 + k = omega arith in
      subst (λ (x : ℕ). Stood (plan_at (p ∷ ps) x).kind x Before (al_asked ss x) 0 0 0 CountSlaves (slave_of ss k)) z
      (record { stands = record { slave = (d.each k b).slave; at = inl tt }; spelled = (d.each k b).spelled; sure = refl; late = λ low. absurd low; dry = tt }));
}

brought-up : (p : SlavePlan) (ps : List SlavePlan) (fs : List Feed) (from : ℕ) (ss : List SlaveState) → ArePlansWith (p ∷ ps) fs → AllAgree (p ∷ ps) → AreDevices (p ∷ ps) ss → (k : ℕ) (e : Rising)
    → TurnsTo k (rising (begun (p ∷ ps) fs from) ss) e
    → (k < frames_up (p ∷ ps) fs ss → IsOnItsWay (from + k) e) × (k ≡ frames_up (p ∷ ps) fs ss → IsBroughtUp (p ∷ ps) (from + k) e)
unfolding begun
brought-up p ps fs from ss h agree d k e turns =
    let both = rises (p ∷ ps) fs ss (λ i. end_of (plan_at (p ∷ ps) i)) (is-path p ps fs d.few h) d.count (λ i. Before) 0 CountSlaves CountSlaves (phases (p ∷ ps)) (rising (begun (p ∷ ps) fs from) ss) (is-now p ps fs from ss h agree d) k e turns in
    let z : k + 0 ≡ k = omega arith in (
      λ l. both.0 (omega (arith, l, z)),
      λ q.
          let w = both.1 (z ∙ q) in
          record {
            ready = w.ready;
            numbers = w.numbers;
            count = w.count;
            slaves = λ i l.
                let z : 0 + i ≡ i = omega arith in
                subst (λ (j : ℕ). Stands (plan_at (p ∷ ps) j).kind j (Up (end_of (plan_at (p ∷ ps) j))) false (slave_of e.slaves i)) z
                (each-at (λ j s. Stands (plan_at (p ∷ ps) j).kind j (Up (end_of (plan_at (p ∷ ps) j))) false s) 0 i e.slaves (let c = w.count in omega (arith, l, c)) w.each);
          },
    )

-- no slaves: one frame
none-up : (fs : List Feed) (from : ℕ) (ss : List SlaveState) → AreDevices [] ss → (k : ℕ) (e : Rising) → TurnsTo k (rising (begun [] fs from) ss) e
    → (k < frames_up [] fs ss → IsOnItsWay (from + k) e) × (k ≡ frames_up [] fs ss → IsBroughtUp [] (from + k) e)
unfolding begun
none-up fs from [] d zero e (Stays _) = (λ l. record { idle = refl; good = datagram-good CountSlaves from tt; next_number = let z : from ≡ from + 0 = omega arith in z }, λ q. absurd (omega (arith, q)))
none-up fs from [] d (suc zero) e (Turns _ _ _ [] app (Stays _)) = (λ l. absurd (omega (arith, l)), λ q. record { ready = refl; numbers = refl; count = refl; slaves = λ i l. absurd (omega (arith, l)) })
none-up fs from [] d (suc zero) e (Turns _ _ _ (t ∷ ts) app more) = absurd app
none-up fs from [] d (suc (suc k)) e turns = (λ l. absurd (omega (arith, l)), λ q. absurd (omega (arith, q)))
none-up fs from (s ∷ ss) d k e turns = absurd (let c = d.count in omega (arith, c))

pub stands-up : StandsUpLaw
stands-up [] fs h agree from ss d k e turns = none-up fs from ss d k e turns
stands-up (p ∷ ps) fs h agree from ss d k e turns = brought-up p ps fs from ss h agree d k e turns

-- ---- an undisturbed start-up ends Ready, in the words of a world

works-of : (i : ℕ) (p : SlavePlan) (s : SlaveState) → SlaveHealth i p false s → Works i p s
works-of i p s (Working h) = h
works-of i p s (Faulted t h) = absurd (both_ways false refl t)
works-of i p s (WasReset t h) = absurd (both_ways false refl t)

works-by : (ps : List SlavePlan) → ArePlans ps → (number : ℕ) (r : Rising) → IsBroughtUp ps number r → IsUpAndWorks ps number r
works-by ps h number r k = record {
  ready = k.ready;
  next_number = k.numbers;
  count = k.count;
  work = λ i l. works-of i (plan_at ps i) _ (stands-shown i (plan_at ps i) false _ (h.planned i l) (k.slaves i l));
}

pub applied_up : AppliedUpLaw
applied_up ps fs h agree from ss d k e turns = let b = stands-up ps fs h agree from ss d k e turns in (b.0, λ q. works-by ps h.plans (from + k) e (b.1 q))

pub comes-up : ComesUpLaw
comes-up ps fs h agree from ss d = (
  (applied_up ps fs h agree from ss d (frames_up ps fs ss) _ (turns-to (frames_up ps fs ss) (rising (begun ps fs from) ss))).1 refl,
  λ k l. (applied_up ps fs h agree from ss d k _ (turns-to k (rising (begun ps fs from) ss))).0 l,
)

pub compiled-up : CompiledUpLaw
compiled-up t sound free agree from ss d = comes-up (plan_of t).slaves (feeds_of (plan_of t)) (are-plans t sound free) agree from ss d
