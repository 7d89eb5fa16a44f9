-- What a slave becomes by a datagram that writes registers.
use Rattle.ec_bringup.proofs.Words.{ℕ, ◌≡◌, Bool, true, false, refl, sym, ◌∙◌, ap, arith, if◌then◌else◌, length, ◌+◌, ◌*◌, ◌/◌, ◌%◌, ◌<◌, ◌≤◌, ◌⊎◌, Option, None, subst, inl, inr, List, [], ◌∷◌, slice_index, SlaveKind, SyncManager, configured, State, Al, requesting, SlaveState, manager_at, Meeting, station_of, power_on, Window, touches, is_configured, settings_written, physical_after, Wrote, set_by, OnlyWrites, IsOfKind, HoldsZeros, IsConfigured, Rises, IsSilent, Talks, IsUpAt, IsTop, Stands, eq-eqb, if_true, if_false, within_below, within_above, Command, Fpwr, Datagram, IsDatagram, adp_of, ado_of, Init, Op, state_number, Sii, written, role_of, adp_after, is_reading, is_writing, window_of, meets, slave_met, datagram_met, other_station_passes, control_word, Action, AskState, station, sent, Rise, Stays, Climbs, Config, Stage, Up, Talk, config_after, climbing, CanAct, CanClimb, writes_meet, goes_on, Untouched, ReadsOn, Arrives, MayRepeat, wrote, unconfigured, Fprd, Fprw, Falls, Hardware, is_missing, shown_fmmu, fmmu_bytes, fmmu_at, IsAssigned, IsEarly, PreOp, SafeOp, is_init, accesses_leave}
use Rattle.ec_bringup.proofs.OneSlave.Alike.{SameObjects, assigned-same, left-same, kind-kept}
use Rattle.ec_bringup.proofs.OneSlave.Lacking.{keeps-below}
use Rattle.ec_bringup.proofs.OneFrame.OtherSlaves.{IsOne, ForAskState, station-zero, Owes, as_one, mine-told}

abbrev locked_of : SyncManager → Bool
locked_of m = m.locked

abbrev state_of : Al → State
state_of a = a.state

pub set-locked : (o : Option Hardware) (w : Window) (n : ℕ) (m : SyncManager) → (set_by o w n m).locked ≡ m.locked
set-locked o w n m = elim (is_configured o w n) as (λ b. locked_of (if b then configured m (settings_written o w n m) else m) ≡ m.locked) [ true ↦ refl | false ↦ refl ]

-- a slave that was written is one
pub slave-wrote : (kind : SlaveKind) (w : Window) (s t : SlaveState) → Wrote w s t → IsOfKind kind s → IsOfKind kind t
slave-wrote kind w s t a h = kind-kept kind s t a.kind a.room a.count a.outs a.ins a.values
    (λ e n l. ap (λ (m : SyncManager). m.locked) (a.managers n (let f = h.four in omega arith))
    ∙ (set-locked s.kind.hardware w n (manager_at s.managers n) ∙ h.unlocked_in_init (sym (state_by (touches w 0x0120)) ∙ (ap (λ (x : Al). x.state) (sym a.al) ∙ e)) n l))
    (λ b e. a.missing b (ap (λ (x : SlaveKind). is_missing x.hardware b) h.kind_is ∙ e)) h
  where
    state_by : (b : Bool) → state_of (if b then requesting s.al else s.al) ≡ s.al.state
    state_by true = refl
    state_by false = refl

-- its dictionary stays
pub objects-wrote : (w : Window) (s t : SlaveState) → Wrote w s t → t.identity ≡ s.identity → SameObjects s t
objects-wrote w s t a e = record { kind = a.kind; identity = e; outs = a.outs; ins = a.ins; values = a.values }

pub identity-wrote : (s : SlaveState) (w : Window) → (physical_after s false true w).identity ≡ s.identity
identity-wrote s w = ap (λ (t : SlaveState). t.identity) (accesses_leave s w).written

-- ---- a datagram of a start-up at the slave that it is for

-- the slave that is meant is told to write
pub own-writes : (s : SlaveState) (d : Datagram) → d.command ≡ Fpwr → adp_of d ≡ station_of s → OnlyWrites s d
own-writes s d c e = record {
  writes = ap (λ (x : Command). is_writing (role_of x (adp_of d) (station_of s))) c ∙ ap is_writing (if_true _ _ _ (eq-eqb _ _ e));
  reads = ap (λ (x : Command). is_reading (role_of x (adp_of d) (station_of s))) c ∙ ap is_reading (if_true _ _ _ (eq-eqb _ _ e));
}

pub own-write : (s : SlaveState) (d : Datagram) → d.command ≡ Fpwr → adp_of d ≡ station_of s → slave_met s d ≡ physical_after s false true (window_of d)
own-write s d c e = (writes_meet s d (own-writes s d c e)).slave

-- a slave that is gone isn't met
pub gone-passes : (i : ℕ) (s : SlaveState) (d : Datagram) → i < 64 → IsDatagram d → (d.command ≡ Fprd) ⊎ ((d.command ≡ Fpwr) ⊎ (d.command ≡ Fprw)) → adp_of d ≡ station i → s ≡ power_on s.kind s.identity
    → meets s d ≡ record { slave = s; datagram = d }
gone-passes i s d l good c e g = other_station_passes s d good c (λ q. let z = station-zero s g in let a : adp_of d ≡ station_of s = q in omega (arith, e, z, a))

-- the heading stays
pub reads-on : (k : Command) (s : SlaveState) (d e : Datagram) → adp_after k (adp_of d) ≡ adp_of d → ReadsOn e d → d.command ≡ k → ReadsOn e (datagram_met s d)
reads-on k s d e stays g c =
    let same : adp_of d + 65536 * ado_of d ≡ d.address = omega arith in
    let o = goes_on s d in
    record {
      command = o.command ∙ g.command;
      address = o.address ∙ (ap (λ (x : Command). adp_after x (adp_of d) + 65536 * ado_of d) c ∙ (ap (λ (x : ℕ). x + 65536 * ado_of d) stays ∙ (same ∙ g.address)));
    }

pub window-sent : (c : Command) (adp ado : ℕ) (bytes : List ℕ) (number : ℕ) → window_of (sent c adp ado bytes number) ≡ record { from = ado; bytes = bytes }
window-sent c adp ado bytes number = let e : (adp % 65536 + 65536 * ado) / 65536 ≡ ado = omega arith in ap (λ (x : ℕ). record { from = x; bytes = bytes }) e

-- ---- a write of registers at its slave

pub pass-own : (kind : SlaveKind) (i : ℕ) (c : Config) (trouble : Bool) (a : Action) (number : ℕ) (d : Datagram) (s : SlaveState) (w : Window)
    → (one : IsOne a i number) → i < 64 → one.e.command ≡ Fpwr → window_of one.e ≡ w → one.ado < 65536 → (MayRepeat a (datagram_met s d) → ⊥) → (IsTop c.rise → ⊥)
    → (IsOfKind kind s → IsUpAt i c s → IsOfKind kind (physical_after s false true w))
    → (IsOfKind kind s → IsUpAt i c s → IsUpAt i (config_after c a) (physical_after s false true w))
    → IsDatagram d → Owes kind i (Up c) trouble a number d s
pass-own kind i c trouble a number d s w one l cm win ado never low keeps up good arrives h =
    let u : Untouched i i one.e d = one.arrives i d arrives in
    let e : d ≡ one.e = u.to_come (omega arith) in
    let cmd : d.command ≡ Fpwr = u.gone_by.command ∙ cm in
    let adp : adp_of d ≡ station i = let x = u.gone_by.address in let y = one.address in omega (arith, x, y, ado) in
    let on : Arrives a number (i + 1) (datagram_met s d) = one.arrived (i + 1) (datagram_met s d) (record { to_come = λ k. absurd (omega arith); gone_by = reads-on Fpwr s d one.e refl u.gone_by cmd }) in (
      record {
        other = λ o. absurd (one.other i o refl);
        repeated = λ r. absurd (never r);
        ended = λ _. subst (λ (x : Stage). Stands kind i x trouble (slave_met s d)) (sym (mine-told one c)) (stood h e cmd adp);
      },
      on,
    )
  where
    stood : Stands kind i (Up c) trouble s → d ≡ one.e → d.command ≡ Fpwr → adp_of d ≡ station i → Stands kind i (Up (config_after c a)) trouble (slave_met s d)
    stood h e cmd adp = elim h.at [
      | inl r ↦
          let q : slave_met s d ≡ physical_after s false true w = own-write s d cmd (adp ∙ sym r.configured.station_is) ∙ ap (λ (x : Window). physical_after s false true x) (ap window_of e ∙ win) in
          subst (λ (t : SlaveState). Stands kind i (Up (config_after c a)) trouble t) (sym q) (record { slave = keeps h.slave r; at = inl (up h.slave r) })
      | inr (f, inl g) ↦
          subst (λ (x : Meeting). Stands kind i (Up (config_after c a)) trouble x.slave) (sym (gone-passes i s d l good (inr (inl cmd)) adp g)) (record { slave = h.slave; at = inr (f, inl g) })
      | inr (f, inr g) ↦ absurd (low g.top)
    ]

-- ---- a state is asked for

abbrev asking : State → Window
asking state = record { from = 0x0120; bytes = state_number state ∷ 0 ∷ [] }

-- a register that it leaves
ask-leaves : (state : State) (s t : SlaveState) (a : ℕ) → Wrote (asking state) s t → a < length s.memory → (a < 0x0120) ⊎ (0x0122 ≤ a) → slice_index t.memory a ≡ slice_index s.memory a
ask-leaves state s t a h l o = h.untouched a l (elim o [ inl b ↦ within_below 0x0120 2 a b | inr b ↦ within_above 0x0120 2 a b ])

pub ask-manager : (state : State) (s t : SlaveState) (n : ℕ) → Wrote (asking state) s t → length s.managers ≡ 4 → n < 4 → manager_at t.managers n ≡ manager_at s.managers n
ask-manager state s t n h e l = h.managers n (omega arith) ∙ if_false _ _ _ (unconfigured s.kind.hardware (asking state) n (inl (omega arith)))

ask-busy : (p : Sii) (state : State) → (written p 0x0120 (state_number state ∷ 0 ∷ [])).busy ≡ p.busy
unfolding written
ask-busy p state = by p.busy refl
  where
    by : (b : Bool) → p.busy ≡ b → (written p 0x0120 (state_number state ∷ 0 ∷ [])).busy ≡ p.busy
    by true e = ap (λ (q : Sii). q.busy) (if_true _ _ _ e)
    by false e = ap (λ (q : Sii). q.busy) (if_false _ _ _ e)

ask-configured : (i : ℕ) (c : Config) (state : State) (s t : SlaveState) → Wrote (asking state) s t → length s.memory ≡ 0x3000 → length s.managers ≡ 4
    → IsConfigured i c s → IsConfigured i (record c { rise = climbing c.rise state }) t
ask-configured i c state s t h room four k = record {
  station_is = ap (λ (x : ℕ). x + 256 * slice_index t.memory 0x0011) (ask-leaves state s t 0x0010 h (omega arith) (inl (omega arith)))
      ∙ (ap (λ (x : ℕ). slice_index s.memory 0x0010 + 256 * x) (ask-leaves state s t 0x0011 h (omega arith) (inl (omega arith))) ∙ k.station_is);
  settings = λ n l. ap (λ (m : SyncManager). m.settings) (ask-manager state s t n h four l) ∙ k.settings n l;
  fmmus = λ n b l m. ask-leaves state s t (0x0600 + 16 * n + b) h (omega arith) (inr (omega arith))
      ∙ (k.fmmus n b l m ∙ ap (λ (x : SlaveKind). slice_index (fmmu_bytes (shown_fmmu x.hardware (fmmu_at c.fmmus n))) b) (sym h.kind));
  idle = λ e. ap (λ (q : Sii). q.busy) h.sii ∙ (ask-busy s.sii state ∙ k.idle e);
  no_messages = λ n l m. ap (λ (x : SyncManager). x.mail) (ask-manager state s t n h four m) ∙ k.no_messages n l m;
  outputs = subst HoldsZeros (sym (ask-manager state s t 2 h four (omega arith))) k.outputs;
}

ask-control : (state : State) (s t : SlaveState) → Wrote (asking state) s t → length s.memory ≡ 0x3000 → control_word t ≡ state_number state
ask-control state s t h room =
    ap (λ (x : ℕ). x + 256 * slice_index t.memory 0x0121) (h.taken 0x0120 (omega arith) (omega arith) refl (keeps-below s.kind.hardware 0x0120 (omega arith) refl) refl)
    ∙ (ap (λ (x : ℕ). state_number state + 256 * x) (h.taken 0x0121 (omega arith) (omega arith) refl (keeps-below s.kind.hardware 0x0121 (omega arith) refl) refl) ∙ zero-more (state_number state))
  where
    zero-more : (n : ℕ) → n + 256 * 0 ≡ n
    zero-more n = omega arith

ask-rises : (r : Rise) (state : State) (s t : SlaveState) → CanClimb r state → control_word t ≡ state_number state → t.al ≡ requesting s.al → Rises r s → Rises (climbing r state) t
ask-rises (Climbs from other) state s t can w a h = absurd can
ask-rises Falls state s t can w a h = (can, inl (record { state = ap (λ (x : Al). x.state) a ∙ h.state; request = ap (λ (x : Al). x.requested) a; control_is = w }))
ask-rises (Stays Init) state s t can w a h = (can, inl (record { state = ap (λ (x : Al). x.state) a ∙ h.state; request = ap (λ (x : Al). x.requested) a; control_is = w }))
ask-rises _ state s t can w a h = (can, inl (record { state = ap (λ (x : Al). x.state) a ∙ h.state_is; request = ap (λ (x : Al). x.requested) a; control_is = w }))

ask-al : (state : State) (s t : SlaveState) → Wrote (asking state) s t → t.al ≡ requesting s.al
ask-al state s t h = h.al ∙ if_true (touches (asking state) 0x0120) (requesting s.al) s.al refl

ask-silent : (c : Config) (r : Rise) (state : State) (s t : SlaveState) → Wrote (asking state) s t → t.identity ≡ s.identity → length s.managers ≡ 4 → IsSilent c s → IsSilent (record c { rise = r }) t
ask-silent c r state s t h same four k =
    let a : IsAssigned c t = assigned-same c s t (objects-wrote (asking state) s t h same) k.assigned in
    record {
      no_message = ap (λ (m : SyncManager). m.mail) (ask-manager state s t 0 h four (omega arith)) ∙ k.no_message;
      no_reply = ap (λ (m : SyncManager). m.mail) (ask-manager state s t 1 h four (omega arith)) ∙ (k.no_reply
          ∙ sym (left-same c (record c { rise = r }) s t h.kind (ap (λ (m : SyncManager). m.settings) (ask-manager state s t 1 h four (omega arith))) (ap (λ (x : Al). is_init x.state) (ask-al state s t h)) refl));
      assigned = record { outs = a.outs; ins = a.ins; came = a.came };
    }

-- on the way up from INIT
early-climb : (r : Rise) (state : State) → CanClimb r state → IsEarly (climbing r state) → IsEarly r
early-climb Falls state can e = tt
early-climb (Stays Init) state can e = tt
early-climb (Stays PreOp) state can e = absurd e
early-climb (Stays SafeOp) state can e = absurd e
early-climb (Stays Op) state can e = absurd e
early-climb (Climbs from other) state can e = absurd can

pub ask-up : (i : ℕ) (c : Config) (state : State) (s t : SlaveState) → Wrote (asking state) s t → t.identity ≡ s.identity → length s.memory ≡ 0x3000 → length s.managers ≡ 4 → c.talk ≡ None → CanClimb c.rise state
    → IsUpAt i c s → IsUpAt i (record c { rise = climbing c.rise state }) t
ask-up i c state s t h same room four none can u = record {
  configured = ask-configured i c state s t h room four u.configured;
  unlocked = λ n l. ap (λ (m : SyncManager). m.locked) (ask-manager state s t n h four l) ∙ u.unlocked n l;
  rises = ask-rises c.rise state s t can (ask-control state s t h room) (ask-al state s t h) u.rises;
  talks = subst (λ (o : Option Talk). Talks i (record c { rise = climbing c.rise state }) o t) (sym none)
      (ask-silent c (climbing c.rise state) state s t h same four (subst (λ (o : Option Talk). Talks i c o s) none u.talks));
  early = λ e. u.early (early-climb c.rise state can e);
  quiet = λ _. none;
}

low-top : (r : Rise) (state : State) → CanClimb r state → IsTop r → ⊥
low-top (Stays Op) state can top = can
low-top (Climbs from other) state can top = can
low-top _ state can top = top

pub pass-ask-state : (kind : SlaveKind) (i : ℕ) (c : Config) (trouble : Bool) (state : State) (number : ℕ) (d : Datagram) (s : SlaveState)
    → i < 64 → CanAct c (AskState i state) → IsDatagram d → Owes kind i (Up c) trouble (AskState i state) number d s
pass-ask-state kind i c trouble state number d s l can good arrives h =
    pass-own kind i c trouble (AskState i state) number d s (asking state) (as_one number (ForAskState i state)) l refl (window-sent Fpwr (station i) 0x0120 (state_number state ∷ 0 ∷ []) number) (omega arith)
    (λ r. r) (low-top c.rise state can.1)
    (λ k u. slave-wrote kind (asking state) s (physical_after s false true (asking state)) (wrote s (asking state) (omega arith)) k)
    (λ k u. ask-up i c state s (physical_after s false true (asking state)) (wrote s (asking state) (omega arith)) (identity-wrote s (asking state)) k.room k.four can.0 can.1 u)
    good arrives h
