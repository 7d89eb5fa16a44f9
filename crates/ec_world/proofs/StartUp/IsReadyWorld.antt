-- A world whose start-up is ready refines a plain state.
use Rattle.ec_world.proofs.Words.{ℕ, zero, suc, ◌<◌, ◌≡◌, ◌≢◌, ◌⊎◌, Bool, true, false, Option, Some, None, refl, sym, ◌∙◌, ap, subst, inl, inr, arith, List, [], ◌∷◌, length, map, get_or, option_map, get_or-map as get_or-mapped, ext_get_or, get_or_past, list_get_or-map as get_or-map, length-map, length-replicate, bytes_of_bits, no_settings, no_fmmu, Identity, SlaveKind, Buffer, emptied_buffer, SyncManager, no_manager, buffer_length, switched_on, SlaveState, manager_at, power_on, SlavePlan, slave_at as settings_of, AreListed, input_manager, IsUsable, listed, IsStartable, end_of, Phase, Ready, IsOfKind, unviewed, Config, OpenCycle, fmmus-held, Starting, trouble_at, no_plan, kind_at, Starts, Between, UnderWay, Feeding, Adrift, Over, IsReady, AreStartable, ends_of, HoldsAll, SlaveHealth, ready-shown, PlainSlave, Health, Working, Faulted, Reset, no_plain_slave, plain_slave, all_progress, WorldState, Flight, no_slave, slave_of, flights_progress, is_up, phase_ready, phase_awaits, Holds, IsQuiet, HoldsData, IsAs, SlaveRefines, CyclesRefine, said, IsFit, SlotsHold, starting_of, Rising, health_of, plain_slave_of, plain_of, ShowsZeros, IsReadyWorld, none_some, PlainFrame, FrameRefines, ReportRefines, flight_at}
use Rattle.ec_bringup.specs.Runs as rise
use Rattle.ec_world.proofs.Refinement.ProcessManagers.{third_held, fourth_held, buffer_long, set_for_ins, buffered_ins}
use Rattle.ec_device.specs.Hardware.{in_manager}
use Rattle.ec_world.proofs.Refinement.ApplicationEvents.{out_length, state_on}

in_length : (p : SlavePlan) → AreListed p → buffer_length (input_manager p) ≡ bytes_of_bits p.share.ins
in_length p a =
    let ic : ℕ = (in_manager p.kind.hardware).control in
    buffer_long p.share.ins p.kind.in_start ic (λ l. set_for_ins p.share.ins p.kind.in_start ic a.in_mode l a.in_fits) (buffered_ins p.share.ins p.kind.in_start ic a.in_mode)

-- ---- one slave

-- zeros of some length are zeros of their own
shows-zeros : (b : Buffer) (n : ℕ) → unviewed b ≡ emptied_buffer n → ShowsZeros b
shows-zeros b n h = h ∙ ap (λ (k : ℕ). emptied_buffer k) (sym (ap (λ (x : Buffer). length x.published) h ∙ length-replicate {A = ℕ} n 0))

on-zeros : (kind : SlaveKind) (identity : Identity) → ShowsZeros (plain_slave_of (power_on kind identity)).outputs
on-zeros kind identity = subst (λ (ms : List SyncManager). ShowsZeros (manager_at ms 2).buffer) (sym (switched_on kind identity).managers) (shows-zeros no_manager.buffer (buffer_length no_settings) refl)

module _ (i : ℕ) (p : SlavePlan) (s : SlaveState) (listed : AreListed p) (good : IsStartable p) (slave : IsOfKind p.kind s) (fit : IsFit s) where
  held : HoldsAll i p s → Holds i p s
  held h =
      let c = h.configured in
      let many : length (map (λ (m : SyncManager). m.settings) s.managers) ≡ 4 = length-map s.managers (λ (m : SyncManager). m.settings) ∙ slave.four in
      let own : (n : ℕ) → n < 4 → get_or (map (λ (m : SyncManager). m.settings) s.managers) n no_settings ≡ get_or p.managers n no_settings
      = λ n l. get_or-mapped (λ (m : SyncManager). m.settings) s.managers n no_manager ∙ c.settings n l in
      record {
        kind = slave.kind_is;
        station = c.station_is;
        fmmus = fmmus-held i (end_of p) s good.readable c ∙ (ap (λ fs. get_or fs 0 no_fmmu ∷ get_or fs 1 no_fmmu ∷ get_or fs 2 no_fmmu ∷ get_or fs 3 no_fmmu ∷ []) listed.fmmus ∙ sym listed.fmmus);
        managers = ext_get_or no_settings (map (λ (m : SyncManager). m.settings) s.managers) p.managers (many ∙ sym (ap length listed.managers)) (λ n l. own n (let f = many in omega (arith, l, f)));
        outputs = h.outs;
        inputs = h.ins;
      }

  no-mail : HoldsAll i p s → (n : ℕ) → n ≢ 1 → (manager_at s.managers n).mail ≡ None
  no-mail h zero ne = h.silent.no_message
  no-mail h (suc zero) ne = absurd (ne refl)
  no-mail h (suc (suc zero)) ne = h.configured.no_messages 2 (omega arith) (omega arith)
  no-mail h (suc (suc (suc zero))) ne = h.configured.no_messages 3 (omega arith) (omega arith)
  no-mail h (suc (suc (suc (suc n)))) ne = ap (λ (m : SyncManager). m.mail) (get_or_past s.managers (suc (suc (suc (suc n)))) no_manager (omega (arith, slave.four)))

  quiet-of : HoldsAll i p s → s.al.requested ≡ false → IsQuiet s
  quiet-of h e = record { no_request = e; no_read = h.no_read; no_message = no-mail h }

  values : HoldsAll i p s → HoldsData p s (plain_slave_of s)
  values h =
      let outs : buffer_length (manager_at s.managers 2).settings ≡ bytes_of_bits p.share.outs = ap buffer_length (third_held i p s (held h) listed) ∙ out_length p listed in
      let ins : buffer_length (manager_at s.managers 3).settings ≡ bytes_of_bits p.share.ins = ap buffer_length (fourth_held i p s (held h) listed) ∙ in_length p listed in
      let f = fit.whole 2 in
      let g = fit.whole 3 in
      record {
        outputs = refl;
        inputs = refl;
        out_bytes = record { published = f.published ∙ outs; draft = λ d e. f.draft d e ∙ outs };
        in_bytes = record { published = g.published ∙ ins; draft = λ d e. g.draft d e ∙ ins };
      }

  shown-as : (h : Health) → health_of s.al.state ≡ h → IsAs i p s (plain_slave_of s) h → SlaveRefines i p s (plain_slave_of s)
  shown-as h e q = subst (λ (x : Health). IsAs i p s (plain_slave_of s) x) (sym e) q

  pub slave-shows : (flag : Bool) → SlaveHealth i p flag s → SlaveRefines i p s (plain_slave_of s)
  slave-shows flag (rise.Working h) = shown-as Working (ap health_of h.in_op.state_is)
      (assumption (held h.holds, quiet-of h.holds h.in_op.no_request, values h.holds, h.unlocked 2 (omega arith), h.unlocked 3 (omega arith), fit.awaits.in_op h.in_op.state_is))
  slave-shows flag (rise.Faulted t h) = shown-as Faulted (ap health_of h.state)
      (assumption (held h.holds, quiet-of h.holds h.no_request, values h.holds, h.unlocked 3 (omega arith) (omega arith)))
  slave-shows flag (rise.WasReset t h) = shown-as Reset (ap health_of (state_on s h)) (record { kind = slave.kind_is; as_on = h })

  pub slave-told : (flag : Bool) → SlaveHealth i p flag s → (health_of s.al.state ≡ Working) ⊎ (flag ≡ true)
  slave-told flag (rise.Working h) = inl (ap health_of h.in_op.state_is)
  slave-told flag (rise.Faulted t h) = inr t
  slave-told flag (rise.WasReset t h) = inr t

  -- the outputs, whatever befell it
  pub slave-zeros : (flag : Bool) → SlaveHealth i p flag s → ShowsZeros (plain_slave_of s).outputs
  slave-zeros flag (rise.Working h) = shows-zeros (manager_at s.managers 2).buffer _ h.holds.configured.outputs
  slave-zeros flag (rise.Faulted t h) = shows-zeros (manager_at s.managers 2).buffer _ h.holds.configured.outputs
  slave-zeros flag (rise.WasReset t h) = subst (λ (x : SlaveState). ShowsZeros (plain_slave_of x).outputs) (sym h) (on-zeros s.kind s.identity)

-- ---- the world

no-frames : (os : List (Option Flight)) → ((k : ℕ) → get_or os k None ≡ None) → flights_progress os ≡ all_progress (map (λ o. None) os)
no-frames [] h = refl
no-frames (None ∷ os) h = ap (λ xs. None ∷ xs) (no-frames os (λ k. h (suc k)))
no-frames (Some f ∷ os) h = absurd (none_some f (sym (h 0)))

up-ready : (p : Phase) → phase_ready p ≡ true → p ≡ Ready
up-ready Ready e = refl
up-ready _ e = absurd (let z : false ≡ true = e in cc)

ready-slot : (ends : ℕ → Config) (v : Starting) → Starts ends v → v.start.phase ≡ Ready → v.slot ≡ None
ready-slot ends v h e = elim h.instant [ Between b ↦ b.empty | UnderWay b ↦ absurd (cc (sym b.sent ∙ e)) | Feeding b ↦ absurd (cc (sym b.sent ∙ e)) | Adrift b ↦ b.empty | Over b ↦ absurd (cc (sym b.failed ∙ e)) | IsReady b ↦ b.empty ]

-- it has no frame on its way
pub no-slots : (flags : List Bool) (w : WorldState) → Rising flags w → is_up w.start ≡ true → (k : ℕ) → get_or w.slots k None ≡ None
no-slots flags w r up = subst (SlotsHold w.slots) (ready-slot (ends_of w.plan.slaves) (starting_of w flags r.slot) r.starts (up-ready w.start.phase up)) r.slots

pub ready-world : (flags : List Bool) (w : WorldState) → IsUsable w.plan → AreStartable w.plan.slaves → Rising flags w → is_up w.start ≡ true → IsReadyWorld flags w
ready-world flags w sound planned r up =
    let ready : w.start.phase ≡ Ready = up-ready w.start.phase up in
    let none = no-slots flags w r up in
    let as_many : length w.slaves ≡ length w.plan.slaves = r.starts.slaves.slaves ∙ ap length r.same_plan in
    let shown : (i : ℕ) → i < length w.plan.slaves → SlaveHealth i (settings_of w.plan i) (trouble_at flags i) (slave_of w i)
    = λ i l. subst (λ (ps : List SlavePlan). SlaveHealth i (get_or ps i no_plan) (trouble_at flags i) (slave_of w i)) r.same_plan
    (ready-shown (starting_of w flags r.slot) (subst AreStartable (sym r.same_plan) planned) (subst (λ (ps : List SlavePlan). Starts (ends_of ps) (starting_of w flags r.slot)) (sym r.same_plan) r.starts) ready i (omega (arith, l, ap length r.same_plan))) in
    let kind : (i : ℕ) → i < length w.plan.slaves → IsOfKind (settings_of w.plan i).kind (slave_of w i)
    = λ i l. subst (λ (ps : List SlavePlan). IsOfKind (kind_at ps i) (slave_of w i)) r.same_plan (r.starts.slaves.each i (omega (arith, l, ap length r.same_plan))) in
    let at : (i : ℕ) → i < length w.plan.slaves → plain_slave (plain_of w) i ≡ plain_slave_of (slave_of w i)
    = λ i l. get_or-map plain_slave_of w.slaves i no_slave no_plain_slave (omega (arith, l, as_many)) in
    let slaves : (i : ℕ) → i < length w.plan.slaves → SlaveRefines i (settings_of w.plan i) (slave_of w i) (plain_slave (plain_of w) i)
    = λ i l. subst (SlaveRefines i (settings_of w.plan i) (slave_of w i)) (sym (at i l))
    (slave-shows i (settings_of w.plan i) (slave_of w i) (listed w.plan sound i l) (planned.each i l) (kind i l) (r.fit i) (trouble_at flags i) (shown i l)) in
    let cycle : CyclesRefine w.plan w.master.cycle None = subst (λ (o : Option OpenCycle). CyclesRefine w.plan o None) (sym r.no_cycle) tt in
    let report : ReportRefines w.plan w.report (option_map said w.report) = record { same = refl; counters = r.reported } in
    let frames : (k : ℕ) (flight : Flight) (f : PlainFrame) → flight_at w k ≡ Some flight → get_or (plain_of w).slots k None ≡ Some f → FrameRefines w.plan f flight.bytes = λ k flight f e q. absurd (none_some flight (sym (none k) ∙ e)) in
    record {
      shows = assumption (ap (λ (p : Phase). phase_awaits p) ready, r.master_ready up, r.master_plan, cycle, report, length-map w.slaves plain_slave_of ∙ as_many, slaves, no-frames w.slots none, frames);
      told = λ i l. subst (λ (q : PlainSlave). (q.health ≡ Working) ⊎ (trouble_at flags i ≡ true)) (sym (at i l))
          (slave-told i (settings_of w.plan i) (slave_of w i) (listed w.plan sound i l) (planned.each i l) (kind i l) (r.fit i) (trouble_at flags i) (shown i l));
      zeros = λ i l. subst (λ (q : PlainSlave). ShowsZeros q.outputs) (sym (at i l))
          (slave-zeros i (settings_of w.plan i) (slave_of w i) (listed w.plan sound i l) (planned.each i l) (kind i l) (r.fit i) (trouble_at flags i) (shown i l));
    }
