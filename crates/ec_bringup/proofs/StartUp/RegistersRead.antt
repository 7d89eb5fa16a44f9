-- The registers of a slave that holds the plan read it.
use Rattle.ec_bringup.proofs.Words.{ℕ, zero, suc, ◌+◌, ◌*◌, ◌<◌, ◌≡◌, ◌≢◌, ◌⊎◌, Bool, true, Option, refl, sym, ◌∙◌, ap, subst, inl, inr, arith, List, length, get_or, slice_index, Hardware, AreNumbered, manager_number, SlaveKind, SyncManagerSettings, manager_bytes, shown_manager, fmmu_bytes, shown_fmmu, SyncManager, SlaveState, manager_at, power_on, byte_at, slaves_take_names, shows_itself, SlavePlan, settings_at, fmmu_at, slave_at, trouble_at, no_plan, SlaveHealth, Working, Faulted, WasReset}
use Rattle.ec_regs.specs.Memory.{manager_start, fmmu_start}
use Rattle.ec_sync.specs.Governing.{manager_byte}
use Rattle.ec_slave.specs.Physical.{as_shown}
use Rattle.ec_bringup.specs.Registers.{ReadsPlan, HeldIsRead, ReadyIsRead}
use Rattle.ec_bringup.proofs.StartUp.StartUpLaw.{IsGood, runs-good, new-good, start-up}

-- the bytes of a manager that are settings
byte-shown : (o : Option Hardware) (m : SyncManager) (k : ℕ) → k < 8 → k ≢ 5 → k ≢ 7 → manager_byte (as_shown o m) k ≡ slice_index (manager_bytes (shown_manager o m.settings)) k
byte-shown o m zero l status side = refl
byte-shown o m (suc zero) l status side = refl
byte-shown o m (suc (suc zero)) l status side = refl
byte-shown o m (suc (suc (suc zero))) l status side = refl
byte-shown o m (suc (suc (suc (suc zero)))) l status side = refl
byte-shown o m (suc (suc (suc (suc (suc zero))))) l status side = absurd (status refl)
byte-shown o m (suc (suc (suc (suc (suc (suc zero)))))) l status side = refl
byte-shown o m (suc (suc (suc (suc (suc (suc (suc zero))))))) l status side = absurd (side refl)
byte-shown o m (suc (suc (suc (suc (suc (suc (suc (suc k)))))))) l status side = absurd (omega (arith, l))

pub held : HeldIsRead
held i p s numbered kind h = record {
  station_is = ap (λ (x : ℕ). x + 256 * byte_at s 0x0011) ((shows_itself s).station 0 (omega arith))
      ∙ (ap (λ (x : ℕ). slice_index s.memory 0x0010 + 256 * x) ((shows_itself s).station 1 (omega arith)) ∙ h.configured.station_is);
  managers = λ place k l b status side.
      subst (λ (x : SlaveKind). byte_at s (manager_start (manager_number x.hardware place) + k) ≡ slice_index (manager_bytes (shown_manager x.hardware (settings_at p.managers place))) k) kind
      ((slaves_take_names s place (subst (λ (x : SlaveKind). AreNumbered x.hardware) (sym kind) numbered) l).read k b
      ∙ (byte-shown s.kind.hardware (manager_at s.managers place) k b status side
      ∙ ap (λ (x : SyncManagerSettings). slice_index (manager_bytes (shown_manager s.kind.hardware x)) k) (h.configured.settings place l)));
  fmmus = λ n k l b.
      subst (λ (x : SlaveKind). byte_at s (fmmu_start n + k) ≡ slice_index (fmmu_bytes (shown_fmmu x.hardware (fmmu_at p.fmmus n))) k) kind
      ((shows_itself s).mappings n k l b ∙ h.configured.fmmus n k l b);
}

shown : (i : ℕ) (p : SlavePlan) (trouble : Bool) (s : SlaveState) → AreNumbered p.kind.hardware → s.kind ≡ p.kind → SlaveHealth i p trouble s
    → ReadsPlan i p s ⊎ ((trouble ≡ true) × (s ≡ power_on s.kind s.identity))
shown i p trouble s numbered kind (Working h) = inl (held i p s numbered kind h.holds)
shown i p trouble s numbered kind (Faulted t h) = inl (held i p s numbered kind h.holds)
shown i p trouble s numbered kind (WasReset t h) = inr (t, h)

pub ready : ReadyIsRead
ready ps fs planned fed w v new r is_ready i l =
    let g : IsGood ps v = runs-good ps planned w v r (new-good ps fs planned fed w new) in
    let kind : (slave_at v.slaves i).kind ≡ (get_or ps i no_plan).kind
    = subst (λ (qs : List SlavePlan). (slave_at v.slaves i).kind ≡ (get_or qs i no_plan).kind) g.plan_is (g.starts.slaves.each i (subst (λ (qs : List SlavePlan). i < length qs) (sym g.plan_is) l)).kind_is in
    shown i (get_or ps i no_plan) (trouble_at v.troubles i) (slave_at v.slaves i) (planned.each i l).numbered kind (start-up ps fs planned fed w v new r is_ready i l)
