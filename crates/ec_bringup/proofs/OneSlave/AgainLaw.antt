-- Whatever happens to a slave, it stays a device of its type.
use Rattle.ec_bringup.proofs.Words.{cases_Bool, inl, inr, ℕ, ◌<◌, ◌≤◌, ◌≡◌, Bool, true, false, Option, Some, None, refl, sym, ◌∙◌, ap, subst, arith, if◌then◌else◌, List, length, set, unwrap_or, SlaveKind, Identity, Datagram, Sii, SiiImage, SyncManager, app_put, Got, SlaveState, power_on, manager_at, slave_met, option_map, IsOfKind, is_running, with_manager, input_put, output_got, output_taken, served, faulted, SlavePlan, IsDevice, plan_at, slave_of, settles, inside_kept, faults, settings_kept, switched_on, Starting, slave_at, with_begun, AreStartable, Happens, Sends, Passes, Loses, Returns, Strays, Closes, Serves, Puts, Gets, Faults, Resets, Runs, Stops, Steps, Begins, IsOfType, IsTrue, AreTrue, AgainLaw}
use Rattle.ec_al.specs.Al as al
use Rattle.ec_bringup.proofs.StartUp.Keeps.{set_one}
use Rattle.ec_bringup.proofs.StartUp.StartUpLaw.{IsGood, runs-good, happens-plan, begun-plan, new-good}

-- identity and image stay
pub record Same (s t : SlaveState) : Type 0 where
  pub identity : t.identity ≡ s.identity
  pub image : t.sii.image ≡ s.sii.image

pub same-refl : (s : SlaveState) → Same s s
same-refl s = record { identity = refl; image = refl }

pub true-on : (kind : SlaveKind) (s t : SlaveState) → Same s t → IsTrue kind s → IsTrue kind t
true-on kind s t e h = record {
  image = ap (λ (i : SiiImage). i.identity) e.image ∙ (h.image ∙ sym e.identity);
  own = subst (IsOfType kind) (sym e.identity) h.own;
}

-- ---- any datagram

pub met-same : (s : SlaveState) (d : Datagram) → Same s (slave_met s d)
met-same s d = let k = inside_kept s d in record { identity = k.identity; image = k.image }

-- ---- the other events

pub served-same : (s : SlaveState) → Same s (served s)
served-same s = record { identity = (settings_kept s).identity; image = (settles s).image }

put-by : (s : SlaveState) (b : Bool) (o : Option SyncManager) → Same s (unwrap_or (if b then option_map (with_manager s 3) o else None) s)
put-by s true None = same-refl s
put-by s true (Some m) = record { identity = refl; image = refl }
put-by s false o = same-refl s

pub put-same : (s : SlaveState) (place byte : ℕ) → Same s (unwrap_or (input_put s place byte) s)
put-same s place byte = put-by s (is_running s.al.state) (app_put (manager_at s.managers 3) place byte)

pub got-by : (s : SlaveState) (o : Option Got) → Same s (output_taken s o)
got-by s None = same-refl s
got-by s (Some got) = record { identity = refl; image = refl }

pub fault-same : (s : SlaveState) → Same s (faulted s)
fault-same s = elim (cases_Bool (al.is_operational s.al.state)) [
  | inl e ↦ subst (Same s) (sym ((faults s).in_op e)) (record { identity = refl; image = refl })
  | inr e ↦ subst (Same s) (sym ((faults s).elsewhere e)) (same-refl s)
]

-- an identity of the type's device
pub on-true : (kind type : SlaveKind) (identity : Identity) → IsOfType kind identity → IsTrue kind (power_on type identity)
on-true kind type identity h =
    let on = switched_on type identity in record {
      image = ap (λ (p : Sii). p.image.identity) on.sii ∙ sym on.identity_is;
      own = subst (IsOfType kind) (sym on.identity_is) h;
    }

pub reset-true : (kind : SlaveKind) (s : SlaveState) → IsTrue kind s → IsTrue kind (power_on s.kind s.identity)
reset-true kind s h = on-true kind s.kind s.identity h.own

-- ---- worlds

-- the slaves of a world after an event
slaves-true : (w v : Starting) → length w.slaves ≡ length w.start.plan → Happens w v → AreTrue w → (i : ℕ) → i < length w.start.plan → IsTrue (plan_at w.start.plan i).kind (slave_of v.slaves i)
slaves-true w v n event h i l = by event
  where
    kept : v.slaves ≡ w.slaves → IsTrue (plan_at w.start.plan i).kind (slave_of v.slaves i)
    kept e = subst (λ (ss : List SlaveState). IsTrue (plan_at w.start.plan i).kind (slave_of ss i)) (sym e) (h.each i l)

    one : (k : ℕ) (t : SlaveState) → k < length w.start.plan → IsTrue (plan_at w.start.plan k).kind t → v.slaves ≡ set w.slaves k t → IsTrue (plan_at w.start.plan i).kind (slave_of v.slaves i)
    one k t m own e = subst (λ (ss : List SlaveState). IsTrue (plan_at w.start.plan i).kind (slave_of ss i)) (sym e)
        (set_one (λ j s. IsTrue (plan_at w.start.plan j).kind s) w.slaves k t i (omega (arith, n, m)) (λ q. own) (λ q. h.each i l))

    same : (k : ℕ) (t : SlaveState) → k < length w.start.plan → Same (slave_at w.slaves k) t → v.slaves ≡ set w.slaves k t → IsTrue (plan_at w.start.plan i).kind (slave_of v.slaves i)
    same k t m e = one k t m (true-on (plan_at w.start.plan k).kind (slave_at w.slaves k) t e (h.each k m))

    by : Happens w v → IsTrue (plan_at w.start.plan i).kind (slave_of v.slaves i)
    by (Sends idle good e) = kept (ap (λ (x : Starting). x.slaves) e)
    by (Passes c full m e) = same c.passed _ m (met-same (slave_at w.slaves c.passed) c.datagram) (ap (λ (x : Starting). x.slaves) e)
    by (Loses c full e) = kept (ap (λ (x : Starting). x.slaves) e)
    by (Returns c full m sent e) = kept (ap (λ (x : Starting). x.slaves) e)
    by (Strays c f full failed e) = kept (ap (λ (x : Starting). x.slaves) e)
    by (Closes number sent e) = kept (ap (λ (x : Starting). x.slaves) e)
    by (Serves k m e) = same k _ m (served-same (slave_at w.slaves k)) (ap (λ (x : Starting). x.slaves) e)
    by (Puts k place byte m e) = same k _ m (put-same (slave_at w.slaves k) place byte) (ap (λ (x : Starting). x.slaves) e)
    by (Gets k place m e) = same k _ m (got-by (slave_at w.slaves k) (output_got (slave_at w.slaves k) place)) (ap (λ (x : Starting). x.slaves) e)
    by (Faults k m op e) = same k _ m (fault-same (slave_at w.slaves k)) (ap (λ (x : Starting). x.slaves) e)
    by (Resets k m e) = one k _ m (reset-true (plan_at w.start.plan k).kind (slave_at w.slaves k) (h.each k m)) (ap (λ (x : Starting). x.slaves) e)

by-slaves : (w v : Starting) → v.start.plan ≡ w.start.plan → ((i : ℕ) → i < length w.start.plan → IsTrue (plan_at w.start.plan i).kind (slave_of v.slaves i)) → AreTrue v
by-slaves w v e h = record { each = subst (λ (ps : List SlavePlan). (i : ℕ) → i < length ps → IsTrue (plan_at ps i).kind (slave_of v.slaves i)) (sym e) h }

-- the length of the slaves is that of the plan at every instant: by the runs so far
runs-true : (ps : List SlavePlan) → AreStartable ps → (w v : Starting) → Runs w v → IsGood ps w → AreTrue w → AreTrue v
runs-true ps planned w v (Stops x) g h = h
runs-true ps planned w v (Steps x u y e r) g h =
    runs-true ps planned u v r (runs-good ps planned w u (Steps w u u e (Stops u)) g) (by-slaves w u (happens-plan w u e) (slaves-true w u g.starts.slaves.slaves e h))
runs-true ps planned w v (Begins x y f failed empty r) g h =
    runs-true ps planned (with_begun w) v r (runs-good ps planned w (with_begun w) (Begins w (with_begun w) f failed empty (Stops (with_begun w))) g) (by-slaves w (with_begun w) (begun-plan w) h.each)

pub device-of : (kind : SlaveKind) (s : SlaveState) → IsOfKind kind s → IsTrue kind s → IsDevice kind s
device-of kind s k h = record {
  slave = k;
  spelled = subst (IsOfType kind) (sym h.image) h.own;
}

pub again : AgainLaw
again ps fs plans fed w v new first r =
    let planned : AreStartable ps = record { each = plans.planned; alike = plans.alike } in
    let g0 : IsGood ps w = new-good ps fs planned fed w new in
    let g : IsGood ps v = runs-good ps planned w v r g0 in
    let sl = g.starts.slaves in
    record {
      count = sl.slaves ∙ ap length g.plan_is;
      few = subst (λ (qs : List SlavePlan). length qs ≤ 64) g.plan_is sl.few;
      each = subst (λ (qs : List SlavePlan). (i : ℕ) → i < length qs → IsDevice (plan_at qs i).kind (slave_of v.slaves i)) g.plan_is
          (λ i l. device-of (plan_at v.start.plan i).kind (slave_of v.slaves i) (sl.each i l) ((runs-true ps planned w v r g0 first).each i l));
    }
