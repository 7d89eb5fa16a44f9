-- A slave gets its station address.
use Rattle.ec_bringup.proofs.Words.{ℕ, suc, ◌+◌, ◌-◌, ◌*◌, ◌/◌, ◌%◌, ◌<◌, ◌≡◌, ◌≢◌, Bool, true, false, refl, sym, ◌∙◌, ap, subst, inl, inr, arith, [], ◌∷◌, length, slice_index, eq-eqb, both_ways, cases_eq, if_true, if_false, within_above, SlaveKind, no_settings, fmmu_bytes, no_fmmu, SyncManager, Command, Apwr, Datagram, IsDatagram, adp_of, ado_of, with_adp, role_of, is_reading, is_writing, SlaveState, Meeting, manager_at, station_of, Window, physical_after, meets, slave_met, datagram_met, other_position_passes, settings_at, fmmu_at, NameSlave, station, datagram_of, Stage, Down, Up, fresh, after, Fits, IsClear, HoldsZeros, AreClear, IsDownAt, IsUpAt, Stands, IsWriting, Arrives, Met, Wrote, wrote, unconfigured, OnlyWrites, writes_meet, zero, Falls, Stays, Init, Rise, Rises, Lowered, fresh_lowered, named_of, IsLoweredAt, Hardware, Option, shown_fmmu, IsOfKind, IsAtInit, IsDictionary, dictionary_of}
use Rattle.ec_bringup.proofs.OneFrame.OtherSlaves.{others-stay, other-met, Owes}
use Rattle.ec_bringup.proofs.OneSlave.Reset.{get_or-zeros}
use Rattle.ec_bringup.proofs.OneFrame.RegisterWrites.{slave-wrote, window-sent}
use Rattle.ec_bringup.proofs.OneFrame.BroadcastWrites.{init-wrote, fallen-wrote, written-on, window-is}
use Rattle.ec_bringup.proofs.OneSlave.Alike.{reached-low, left-init, of-own-type}
use Rattle.ec_bringup.proofs.OneFrame.SetRegisters.{at-init}
use Rattle.ec_bringup.proofs.OneSlave.Lacking.{keeps-below, no-other}

-- ---- the meeting

-- the slave at this position is told to write
pub position-writes : (s : SlaveState) (d : Datagram) → d.command ≡ Apwr → adp_of d ≡ 0 → OnlyWrites s d
position-writes s d c e = record {
  writes = ap (λ (x : Command). is_writing (role_of x (adp_of d) (station_of s))) c ∙ ap is_writing (if_true _ _ _ (eq-eqb _ _ e));
  reads = ap (λ (x : Command). is_reading (role_of x (adp_of d) (station_of s))) c ∙ ap is_reading (if_true _ _ _ (eq-eqb _ _ e));
}

-- ---- at its position

abbrev pub naming : ℕ → Window
naming i = record { from = 0x0010; bytes = station i % 256 ∷ station i / 256 ∷ [] }

settings-none : (n : ℕ) → settings_at fresh.managers n ≡ no_settings
settings-none (suc (suc (suc (suc n)))) = refl
settings-none _ = refl

-- no FMMU, as the registers have it
fmmu-none : (o : Option Hardware) (n : ℕ) → shown_fmmu o (fmmu_at fresh.fmmus n) ≡ no_fmmu
fmmu-none o (suc (suc (suc (suc n)))) = no-other o
fmmu-none o zero = no-other o
fmmu-none o (suc zero) = no-other o
fmmu-none o (suc (suc zero)) = no-other o
fmmu-none o (suc (suc (suc zero))) = no-other o

-- a slave in INIT whose registers are clear gets its station address; what is known of its AL state goes on
named-up : (r : Rise) (i : ℕ) (s t : SlaveState) → Wrote (naming i) s t → length s.memory ≡ 0x3000 → length s.managers ≡ 4 → ((n : ℕ) → n < 4 → (manager_at s.managers n).locked ≡ false)
    → ((k : ℕ) → k < 64 → slice_index s.memory (0x0600 + k) ≡ 0) → AreClear s → IsAtInit r → IsDictionary t.kind (dictionary_of t) → Rises r t → IsUpAt i (record fresh { rise = r }) t
named-up r i s t h room four unlocked free clear at objects rises =
    let same : (n : ℕ) → n < 4 → manager_at t.managers n ≡ manager_at s.managers n
    = λ n l. h.managers n (omega (arith, four, l)) ∙ if_false _ _ _ (unconfigured s.kind.hardware (naming i) n (inl (omega arith))) in
    record {
      configured = record {
        station_is = ap (λ (x : ℕ). x + 256 * slice_index t.memory 0x0011) (h.taken 0x0010 (omega (arith, room)) (omega arith) refl (keeps-below s.kind.hardware 0x0010 (omega arith) refl) refl)
            ∙ (ap (λ (x : ℕ). station i % 256 + 256 * x) (h.taken 0x0011 (omega (arith, room)) (omega arith) refl (keeps-below s.kind.hardware 0x0011 (omega arith) refl) refl) ∙ whole (station i));
        settings = λ n l. ap (λ (m : SyncManager). m.settings) (same n l) ∙ (clear.settings n l ∙ sym (settings-none n));
        fmmus = λ n b l m. h.untouched (0x0600 + 16 * n + b) (omega (arith, room, l, m)) (within_above 0x0010 2 (0x0600 + 16 * n + b) (omega arith))
            ∙ (subst (λ (x : ℕ). slice_index s.memory x ≡ 0) (adds n b) (free (16 * n + b) (omega (arith, l, m))) ∙ sym (ap (λ f. slice_index (fmmu_bytes f) b) (fmmu-none t.kind.hardware n) ∙ get_or-zeros 16 b));
        idle = λ e. absurd (both_ways false refl e);
        no_messages = λ n a l. ap (λ (m : SyncManager). m.mail) (same n l) ∙ clear.no_messages n l;
        outputs = subst HoldsZeros (sym (same 2 (omega arith))) clear.outputs;
      };
      unlocked = λ n l. ap (λ (m : SyncManager). m.locked) (same n l) ∙ unlocked n l;
      rises = rises;
      talks = record {
        no_message = ap (λ (m : SyncManager). m.mail) (same 0 (omega arith)) ∙ clear.no_messages 0 (omega arith);
        no_reply = ap (λ (m : SyncManager). m.mail) (same 1 (omega arith)) ∙ (clear.no_messages 1 (omega arith) ∙ sym (left-init (record fresh { rise = r }) t (at-init r t at rises)));
        assigned = record {
          outs = record { count_is = λ x e. absurd (cc e); slots_are = refl };
          ins = record { count_is = λ x e. absurd (cc e); slots_are = refl };
          came = record { from = dictionary_of t; of_type = objects; done = refl };
        };
      };
      early = λ _. (refl, refl);
      quiet = λ _. refl;
    }
  where
    whole : (n : ℕ) → n % 256 + 256 * (n / 256) ≡ n
    whole n = omega arith

    adds : (n b : ℕ) → 0x0600 + (16 * n + b) ≡ 0x0600 + 16 * n + b
    adds n b = omega arith

-- the two stages from which a slave is named
clear-is : (P : Stage → Type 0) (st : Stage) → IsClear st → P (Down true true) → P (Lowered true true) → P st
clear-is P (Down true true) c h k = h
clear-is P (Lowered true true) c h k = k
clear-is P _ c h k = absurd c

pub pass-name : (kind : SlaveKind) (i t : ℕ) (st : Stage) (trouble : Bool) (number : ℕ) (d : Datagram) (s : SlaveState)
    → i < 64 → Fits i st (NameSlave t) → IsDatagram d → Owes kind i st trouble (NameSlave t) number d s
pass-name kind i t st trouble number d s l fits good arrives h = elim (cases_eq t i) [
  | inl e ↦
      let adp : adp_of d ≡ 0 = let a = arrives.adp_is in omega (arith, a, e, l) in
      let next : ((65536 - t + i) % 65536 + 1) % 65536 ≡ (65536 - t + (i + 1)) % 65536 = omega (arith, e, l) in
      let win = window-is (datagram_of (NameSlave t) number) d _ (naming t) arrives (window-sent Apwr (65536 - t) 0x0010 (station t % 256 ∷ station t / 256 ∷ []) number) in
      let q : slave_met s d ≡ physical_after s false true (naming i) = (writes_meet s d (position-writes s d arrives.command adp)).slave ∙ (ap (λ (x : Window). physical_after s false true x) win ∙ ap (λ (x : ℕ). physical_after s false true (naming x)) e) in (
        record {
          other = λ o. absurd (o e);
          repeated = λ o. absurd o;
          ended = λ _. subst (λ (x : SlaveState). Stands kind i (after i st (NameSlave t)) trouble x) (sym q) (subst (λ (x : Stage). Stands kind i x trouble (physical_after s false true (naming i))) (sym (if_true _ _ _ (eq-eqb t i e)))
              (clear-is (λ x. Stands kind i x trouble s → Stands kind i (Up (named_of x)) trouble (physical_after s false true (naming i))) st (fits.1 e) up low h));
        },
        subst (λ (x : ℕ). IsWriting (datagram_of (NameSlave t) number) (datagram_met s d) x) next (written-on Apwr s (datagram_of (NameSlave t) number) d ((65536 - t + i) % 65536) arrives.command (position-writes s d arrives.command adp) refl arrives),
      )
  | inr ne ↦
      let lt = fits.0 in
      let adp : adp_of d ≢ 0 = λ z. let a = arrives.adp_is in omega (arith, a, ne, l, lt, z) in
      let m : meets s d ≡ record { slave = s; datagram = with_adp d ((adp_of d + 1) % 65536) } = other_position_passes s d good (inr (inl arrives.command)) adp in
      let next : ((adp_of d + 1) % 65536 + 65536 * (d.address / 65536)) % 65536 ≡ (65536 - t + (i + 1)) % 65536 = let a = arrives.adp_is in omega (arith, a, l, lt) in
      let high : ((adp_of d + 1) % 65536 + 65536 * (d.address / 65536)) / 65536 ≡ ado_of d = omega arith in
      subst (λ (x : Meeting). Met kind i st trouble (NameSlave t) x.datagram x.slave × Arrives (NameSlave t) number (i + 1) x.datagram) (sym m) (
        other-met kind i st trouble (NameSlave t) _ s (others-stay t i (Up (named_of st)) st ne) h,
        record { command = arrives.command; ado = high ∙ arrives.ado; adp_is = next; bytes = arrives.bytes },
      )
]
  where
    up : Stands kind i (Down true true) trouble s → Stands kind i (Up fresh) trouble (physical_after s false true (naming i))
    up k =
        let w : Wrote (naming i) s (physical_after s false true (naming i)) = wrote s (naming i) (omega arith) in
        let r : IsDownAt true true s = reached-low kind i (Down true true) trouble s (λ u. u) k in
        let slave : IsOfKind kind (physical_after s false true (naming i)) = slave-wrote kind (naming i) s (physical_after s false true (naming i)) w k.slave in
        record {
          slave = slave;
          at = inl (named-up (Stays Init) i s (physical_after s false true (naming i)) w k.slave.room k.slave.four (k.slave.unlocked_in_init r.init.state) (r.fmmus refl) (r.managers refl)
              tt (of-own-type kind (physical_after s false true (naming i)) slave)
              (init-wrote (naming i) s (physical_after s false true (naming i)) k.slave.room refl refl w r.init));
        }

    low : Stands kind i (Lowered true true) trouble s → Stands kind i (Up fresh_lowered) trouble (physical_after s false true (naming i))
    low k =
        let w : Wrote (naming i) s (physical_after s false true (naming i)) = wrote s (naming i) (omega arith) in
        let r : IsLoweredAt true true s = reached-low kind i (Lowered true true) trouble s (λ u. u) k in
        let slave : IsOfKind kind (physical_after s false true (naming i)) = slave-wrote kind (naming i) s (physical_after s false true (naming i)) w k.slave in
        record {
          slave = slave;
          at = inl (named-up Falls i s (physical_after s false true (naming i)) w k.slave.room k.slave.four (k.slave.unlocked_in_init r.low.state) (r.fmmus refl) (r.managers refl)
              tt (of-own-type kind (physical_after s false true (naming i)) slave)
              (fallen-wrote (naming i) s (physical_after s false true (naming i)) k.slave.room refl refl w r.low));
        }
