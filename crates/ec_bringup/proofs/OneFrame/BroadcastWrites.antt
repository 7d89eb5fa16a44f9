-- The broadcasts of a start-up at any slave.
use Rattle.ec_bringup.proofs.Words.{ℕ, suc, ◌+◌, ◌-◌, ◌*◌, ◌/◌, ◌%◌, ◌<◌, ◌≡◌, Bool, true, false, refl, sym, ◌∙◌, ap, subst, inl, arith, List, [], ◌∷◌, length, slice_index, or_left, or_right, zeros, if_true, if_false, within_true, within_below, within_above, SlaveKind, no_settings, SyncManager, configured, Command, Bwr, Datagram, adp_of, ado_of, Al, requesting, role_of, adp_after, is_reading, is_writing, SlaveState, manager_at, station_of, Window, touches, physical_after, is_configured, window_of, slave_met, datagram_met, Action, datagram_of, Stage, Called, Down, after, HoldsZeros, IsInInit, AreClear, Stands, IsWriting, IsOther, MayRepeat, Met, Wrote, set_by, wrote, unconfigured, OnlyWrites, writes_meet, goes_on, sent, zero, ◌≤◌, inr, Option, None, unwrap_or, get_or, cases_Bool, cases_eq, cases_lt, length-replicate, Lowered, IsOfKind, HasFallen, AreNumbered, is_missing, no_manager, unviewed, Sii, written, is_stored_at, accesses_leave, updated_by_index, managers_clear, on_left, Hardware}
use Rattle.ec_bringup.proofs.OneSlave.Reset.{get_or-zeros}
use Rattle.ec_bringup.proofs.OneFrame.RegisterWrites.{slave-wrote, objects-wrote, identity-wrote, window-sent}
use Rattle.ec_bringup.proofs.OneSlave.Alike.{SameFront, SameFronts, front-refl, Alike, word_of, gone-on, init-alike, fallen-alike, reached-low, stands-alike}
use Rattle.ec_bringup.proofs.OneSlave.Lacking.{has-below, keeps-there, keeps-below}

-- ---- a broadcast write

pub broadcast-writes : (s : SlaveState) (d : Datagram) → d.command ≡ Bwr → OnlyWrites s d
broadcast-writes s d c = record {
  writes = ap (λ (x : Command). is_writing (role_of x (adp_of d) (station_of s))) c;
  reads = ap (λ (x : Command). is_reading (role_of x (adp_of d) (station_of s))) c;
}

-- a datagram that is written goes on as it came, with its ADP grown
pub written-on : (k : Command) (s : SlaveState) (e d : Datagram) (adp : ℕ) → d.command ≡ k → OnlyWrites s d → adp_after k (adp_of d) ≡ (adp_of d + 1) % 65536 → IsWriting e d adp
    → IsWriting e (datagram_met s d) ((adp + 1) % 65536)
written-on k s e d adp c only grows h =
    let o = goes_on s d in
    let low : ((adp_of d + 1) % 65536 + 65536 * ado_of d) % 65536 ≡ (adp + 1) % 65536 = let a = h.adp_is in omega (arith, a) in
    let high : ((adp_of d + 1) % 65536 + 65536 * ado_of d) / 65536 ≡ ado_of d = omega arith in
    let address : (datagram_met s d).address ≡ (adp_of d + 1) % 65536 + 65536 * ado_of d
    = o.address ∙ (ap (λ (x : Command). adp_after x (adp_of d) + 65536 * ado_of d) c ∙ ap (λ (x : ℕ). x + 65536 * ado_of d) grows) in
    record {
      command = o.command ∙ h.command;
      ado = ap (λ (x : ℕ). x / 65536) address ∙ (high ∙ h.ado);
      adp_is = ap (λ (x : ℕ). x % 65536) address ∙ low;
      bytes = (writes_meet s d only).bytes ∙ h.bytes;
    }

writing-on : (s : SlaveState) (e d : Datagram) (j : ℕ) → d.command ≡ Bwr → IsWriting e d (j % 65536) → IsWriting e (datagram_met s d) ((j + 1) % 65536)
writing-on s e d j c h =
    let step : (j % 65536 + 1) % 65536 ≡ (j + 1) % 65536 = omega arith in
    subst (IsWriting e (datagram_met s d)) step (written-on Bwr s e d (j % 65536) c (broadcast-writes s d c) refl h)

pub window-is : (e d : Datagram) (adp : ℕ) (w : Window) → IsWriting e d adp → window_of e ≡ w → window_of d ≡ w
window-is e d adp w h q = ap (λ (x : ℕ). record { from = x; bytes = d.data_bytes }) h.ado ∙ (ap (λ (x : List ℕ). record { from = ado_of e; bytes = x }) h.bytes ∙ q)

-- what each slave owes at such an action, of these bytes
pub pass-broadcast : (kind : SlaveKind) (i : ℕ) (st : Stage) (trouble : Bool) (a : Action) (number : ℕ) (d : Datagram) (s : SlaveState) (ado : ℕ) (bytes : List ℕ)
    → datagram_of a number ≡ sent Bwr 0 ado bytes number → (IsOther a i → ⊥) → (MayRepeat a (datagram_met s d) → ⊥)
    → (Stands kind i st trouble s → Stands kind i (after i st a) trouble (physical_after s false true (record { from = ado; bytes = bytes })))
    → IsWriting (datagram_of a number) d (i % 65536) → Stands kind i st trouble s
    → Met kind i st trouble a (datagram_met s d) (slave_met s d) × IsWriting (datagram_of a number) (datagram_met s d) ((i + 1) % 65536)
pass-broadcast kind i st trouble a number d s ado bytes e one never step h stands =
    let c : d.command ≡ Bwr = h.command ∙ ap (λ (x : Datagram). x.command) e in
    let win = window-is (datagram_of a number) d (i % 65536) _ h (ap window_of e ∙ window-sent Bwr 0 ado bytes number) in
    let q : slave_met s d ≡ physical_after s false true (record { from = ado; bytes = bytes }) = (writes_meet s d (broadcast-writes s d c)).slave ∙ ap (λ (x : Window). physical_after s false true x) win in (
      record {
        other = λ o. absurd (one o);
        repeated = λ o. absurd (never o);
        ended = λ _. subst (λ (t : SlaveState). Stands kind i (after i st a) trouble t) (sym q) (step stands);
      },
      writing-on s (datagram_of a number) d i c h,
    )

-- ---- INIT is asked for

abbrev pub init-asked : Window
init-asked = record { from = 0x0120; bytes = 0x11 ∷ 0 ∷ [] }

pub init-called : (kind : SlaveKind) (i : ℕ) (st : Stage) (trouble : Bool) (s : SlaveState) → Stands kind i st trouble s → Stands kind i Called trouble (physical_after s false true init-asked)
init-called kind i st trouble s h =
    let w : Wrote init-asked s (physical_after s false true init-asked) = wrote s init-asked (omega arith) in
    let room = h.slave.room in
    record {
      slave = slave-wrote kind init-asked s (physical_after s false true init-asked) w h.slave;
      at = inl (inl (
        ap (λ (x : Al). x.requested) (w.al ∙ if_true (touches init-asked 0x0120) (requesting s.al) s.al refl),
        ap (λ (x : ℕ). x + 256 * slice_index (physical_after s false true init-asked).memory 0x0121) (w.taken 0x0120 (omega arith) (omega arith) refl (keeps-below s.kind.hardware 0x0120 (omega arith) refl) refl)
            ∙ ap (λ (x : ℕ). 0x11 + 256 * x) (w.taken 0x0121 (omega arith) (omega arith) refl (keeps-below s.kind.hardware 0x0121 (omega arith) refl) refl),
      ));
    }

-- ---- the registers are cleared

-- a write that doesn't touch the AL control word leaves a slave in INIT there
word-wrote : (w : Window) (s t : SlaveState) → length s.memory ≡ 0x3000 → touches w 0x0120 ≡ false → touches w 0x0121 ≡ false → Wrote w s t → word_of t.memory ≡ word_of s.memory
word-wrote w s t room a b h =
    ap (λ (x : ℕ). x + 256 * slice_index t.memory 0x0121) (h.untouched 0x0120 (omega arith) a) ∙ ap (λ (x : ℕ). slice_index s.memory 0x0120 + 256 * x) (h.untouched 0x0121 (omega arith) b)

pub init-wrote : (w : Window) (s t : SlaveState) → length s.memory ≡ 0x3000 → touches w 0x0120 ≡ false → touches w 0x0121 ≡ false → Wrote w s t → IsInInit s → IsInInit t
init-wrote w s t room a b h k = init-alike s t h.kind (word-wrote w s t room a b h) (h.al ∙ if_false _ _ _ a) k

pub fallen-wrote : (w : Window) (s t : SlaveState) → length s.memory ≡ 0x3000 → touches w 0x0120 ≡ false → touches w 0x0121 ≡ false → Wrote w s t → HasFallen s → HasFallen t
fallen-wrote w s t room a b h k = fallen-alike s t h.kind (word-wrote w s t room a b h) (h.al ∙ if_false _ _ _ a) k

clear-wrote : (w : Window) (s t : SlaveState) → length s.managers ≡ 4 → ((n : ℕ) → n < 4 → is_configured s.kind.hardware w n ≡ false) → Wrote w s t → AreClear s → AreClear t
clear-wrote w s t four u h k = record {
  settings = λ n l. ap (λ (m : SyncManager). m.settings) (h.managers n (omega (arith, four, l)) ∙ if_false _ _ _ (u n l)) ∙ k.settings n l;
  no_messages = λ n l. ap (λ (m : SyncManager). m.mail) (h.managers n (omega (arith, four, l)) ∙ if_false _ _ _ (u n l)) ∙ k.no_messages n l;
  outputs = subst HoldsZeros (sym (h.managers 2 (omega (arith, four)) ∙ if_false _ _ _ (u 2 (omega arith)))) k.outputs;
}

-- zeros over the registers of FMMUs, of these or of more
abbrev pub fmmus-cleared : ℕ → Window
fmmus-cleared count = record { from = 0x0600; bytes = zeros count }

fmmu-cleared : (count b : ℕ) (s t : SlaveState) → 64 ≤ count → 0x0600 + count ≤ 0x0800 → length s.memory ≡ 0x3000 → ((a : ℕ) → is_missing s.kind.hardware a ≡ true → slice_index s.memory a ≡ 0)
    → Wrote (fmmus-cleared count) s t → b < 64 → slice_index t.memory (0x0600 + b) ≡ 0
fmmu-cleared count b s t some few room missing w l =
    let long : length (zeros count) ≡ count = length-replicate {A = ℕ} count 0 in
    elim (cases_Bool (is_missing s.kind.hardware (0x0600 + b))) [
      | inl e ↦ w.missing (0x0600 + b) e ∙ missing (0x0600 + b) e
      | inr e ↦
          w.taken (0x0600 + b) (omega (arith, room, l)) (omega (arith, l)) (within_true 0x0600 (length (zeros count)) (0x0600 + b) (omega arith) (omega (arith, l, long, some)))
          (keeps-there s.kind.hardware (0x0600 + b) e (or_right _ _ (or_right _ _ (or_left _ _ (within_true 0x0600 64 (0x0600 + b) (omega arith) (omega (arith, l)))))))
          (within_below 0x0800 32 (0x0600 + b) (omega (arith, l))) ∙ get_or-zeros count (0x0600 + b - 0x0600)
    ]

-- the window is aside of the AL control word and of the managers
no-touch : (count a : ℕ) → a < 0x0600 → touches (fmmus-cleared count) a ≡ false
no-touch count a l = within_below 0x0600 (length (zeros count)) a l

no-set : (o : Option Hardware) (count n : ℕ) → 0x0600 + count ≤ 0x0800 → is_configured o (fmmus-cleared count) n ≡ false
no-set o count n few = let long : length (zeros count) ≡ count = length-replicate {A = ℕ} count 0 in unconfigured o (fmmus-cleared count) n (inl (omega (arith, long, few)))

clears-fmmus : (kind : SlaveKind) (s : SlaveState) (count : ℕ) → 64 ≤ count → 0x0600 + count ≤ 0x0800 → IsOfKind kind s → (b : ℕ) → b < 64
    → slice_index (physical_after s false true (fmmus-cleared count)).memory (0x0600 + b) ≡ 0
clears-fmmus kind s count some few h b l =
    let long : length (zeros count) ≡ count = length-replicate {A = ℕ} count 0 in
    fmmu-cleared count b s (physical_after s false true (fmmus-cleared count)) some few h.room
    (λ a e. h.missing a (ap (λ (x : SlaveKind). is_missing x.hardware a) (sym h.kind_is) ∙ e)) (wrote s (fmmus-cleared count) (omega (arith, long, few))) l

pub clear-fmmus : (kind : SlaveKind) (i : ℕ) (f m : Bool) (trouble : Bool) (s : SlaveState) → Stands kind i (Down f m) trouble s → Stands kind i (Down true m) trouble (physical_after s false true (fmmus-cleared 64))
clear-fmmus kind i f m trouble s h =
    let w : Wrote (fmmus-cleared 64) s (physical_after s false true (fmmus-cleared 64)) = wrote s (fmmus-cleared 64) (omega arith) in
    let k = reached-low kind i (Down f m) trouble s (λ u. u) h in
    record {
      slave = slave-wrote kind (fmmus-cleared 64) s (physical_after s false true (fmmus-cleared 64)) w h.slave;
      at = inl (record {
        init = init-wrote (fmmus-cleared 64) s (physical_after s false true (fmmus-cleared 64)) h.slave.room (no-touch 64 0x0120 (omega arith)) (no-touch 64 0x0121 (omega arith)) w k.init;
        fmmus = λ e b l. clears-fmmus kind s 64 (omega arith) (omega arith) h.slave b l;
        managers = λ e. clear-wrote (fmmus-cleared 64) s (physical_after s false true (fmmus-cleared 64)) h.slave.four (λ n l. no-set s.kind.hardware 64 n (omega arith)) w (k.managers e);
      });
    }

-- with `hardware`, all that a controller can have
pub clear-all-fmmus : (kind : SlaveKind) (i : ℕ) (f m : Bool) (trouble : Bool) (s : SlaveState) → Stands kind i (Lowered f m) trouble s → Stands kind i (Lowered true m) trouble (physical_after s false true (fmmus-cleared 256))
clear-all-fmmus kind i f m trouble s h =
    let long : length (zeros 256) ≡ 256 = length-replicate {A = ℕ} 256 0 in
    let w : Wrote (fmmus-cleared 256) s (physical_after s false true (fmmus-cleared 256)) = wrote s (fmmus-cleared 256) (omega (arith, long)) in
    let k = reached-low kind i (Lowered f m) trouble s (λ u. u) h in
    record {
      slave = slave-wrote kind (fmmus-cleared 256) s (physical_after s false true (fmmus-cleared 256)) w h.slave;
      at = inl (record {
        low = fallen-wrote (fmmus-cleared 256) s (physical_after s false true (fmmus-cleared 256)) h.slave.room (no-touch 256 0x0120 (omega arith)) (no-touch 256 0x0121 (omega arith)) w k.low;
        fmmus = λ e b l. clears-fmmus kind s 256 (omega arith) (omega arith) h.slave b l;
        managers = λ e. clear-wrote (fmmus-cleared 256) s (physical_after s false true (fmmus-cleared 256)) h.slave.four (λ n l. no-set s.kind.hardware 256 n (omega arith)) w (k.managers e);
      });
    }

-- ---- managers

abbrev pub managers-cleared : ℕ → Window
managers-cleared count = record { from = 0x0800; bytes = zeros count }

-- Zeros over the registers of all managers clear each, whatever number it has: each setting becomes 0, or stays where it is no
-- setting.
cleared-by : (o : Option Hardware) (count n : ℕ) (m : SyncManager) → AreNumbered o → 32 ≤ count → n < 4 → set_by o (managers-cleared count) n m ≡ configured m no_settings
cleared-by o count n m numbered some l = managers_clear o (zeros count) n m numbered (let long : length (zeros count) ≡ count = length-replicate {A = ℕ} count 0 in omega (arith, long, some)) (λ k b. get_or-zeros count k) l

clears-managers : (kind : SlaveKind) (s : SlaveState) (count : ℕ) → 32 ≤ count → 0x0800 + count ≤ 0x1000 → AreNumbered s.kind.hardware → length s.managers ≡ 4
    → AreClear (physical_after s false true (managers-cleared count))
clears-managers kind s count some few numbered four =
    let long : length (zeros count) ≡ count = length-replicate {A = ℕ} count 0 in
    let w : Wrote (managers-cleared count) s (physical_after s false true (managers-cleared count)) = wrote s (managers-cleared count) (omega (arith, long, few)) in
    record {
      settings = λ n l. ap (λ (x : SyncManager). x.settings) (w.managers n (omega (arith, four, l)) ∙ cleared-by s.kind.hardware count n (manager_at s.managers n) numbered some l);
      no_messages = λ n l. ap (λ (x : SyncManager). x.mail) (w.managers n (omega (arith, four, l)) ∙ cleared-by s.kind.hardware count n (manager_at s.managers n) numbered some l);
      outputs = subst HoldsZeros (sym (w.managers 2 (omega (arith, four)) ∙ cleared-by s.kind.hardware count 2 (manager_at s.managers 2) numbered some (omega arith))) refl;
    }

-- the FMMUs stay
keeps-fmmus : (kind : SlaveKind) (s : SlaveState) (count : ℕ) → 0x0800 + count ≤ 0x1000 → length s.memory ≡ 0x3000 → (b : ℕ) → b < 64
    → slice_index (physical_after s false true (managers-cleared count)).memory (0x0600 + b) ≡ slice_index s.memory (0x0600 + b)
keeps-fmmus kind s count few room b l =
    let long : length (zeros count) ≡ count = length-replicate {A = ℕ} count 0 in
    (wrote s (managers-cleared count) (omega (arith, long, few))).untouched (0x0600 + b) (omega (arith, room, l)) (within_below 0x0800 (length (zeros count)) (0x0600 + b) (omega (arith, l)))

aside-managers : (count a : ℕ) → a < 0x0800 → touches (managers-cleared count) a ≡ false
aside-managers count a l = within_below 0x0800 (length (zeros count)) a l

pub clear-managers : (kind : SlaveKind) (i : ℕ) (f m : Bool) (trouble : Bool) (s : SlaveState) → AreNumbered kind.hardware
    → Stands kind i (Down f m) trouble s → Stands kind i (Down f true) trouble (physical_after s false true (managers-cleared 32))
clear-managers kind i f m trouble s numbered h =
    let w : Wrote (managers-cleared 32) s (physical_after s false true (managers-cleared 32)) = wrote s (managers-cleared 32) (omega arith) in
    let k = reached-low kind i (Down f m) trouble s (λ u. u) h in
    let numbers = subst (λ (x : SlaveKind). AreNumbered x.hardware) (sym h.slave.kind_is) numbered in
    record {
      slave = slave-wrote kind (managers-cleared 32) s (physical_after s false true (managers-cleared 32)) w h.slave;
      at = inl (record {
        init = init-wrote (managers-cleared 32) s (physical_after s false true (managers-cleared 32)) h.slave.room (aside-managers 32 0x0120 (omega arith)) (aside-managers 32 0x0121 (omega arith)) w k.init;
        fmmus = λ e b l. keeps-fmmus kind s 32 (omega arith) h.slave.room b l ∙ k.fmmus e b l;
        managers = λ e. clears-managers kind s 32 (omega arith) (omega arith) numbers h.slave.four;
      });
    }

pub clear-all-managers : (kind : SlaveKind) (i : ℕ) (f m : Bool) (trouble : Bool) (s : SlaveState) → AreNumbered kind.hardware
    → Stands kind i (Lowered f m) trouble s → Stands kind i (Lowered f true) trouble (physical_after s false true (managers-cleared 128))
clear-all-managers kind i f m trouble s numbered h =
    let long : length (zeros 128) ≡ 128 = length-replicate {A = ℕ} 128 0 in
    let w : Wrote (managers-cleared 128) s (physical_after s false true (managers-cleared 128)) = wrote s (managers-cleared 128) (omega (arith, long)) in
    let k = reached-low kind i (Lowered f m) trouble s (λ u. u) h in
    let numbers = subst (λ (x : SlaveKind). AreNumbered x.hardware) (sym h.slave.kind_is) numbered in
    record {
      slave = slave-wrote kind (managers-cleared 128) s (physical_after s false true (managers-cleared 128)) w h.slave;
      at = inl (record {
        low = fallen-wrote (managers-cleared 128) s (physical_after s false true (managers-cleared 128)) h.slave.room (aside-managers 128 0x0120 (omega arith)) (aside-managers 128 0x0121 (omega arith)) w k.low;
        fmmus = λ e b l. keeps-fmmus kind s 128 (omega arith) h.slave.room b l ∙ k.fmmus e b l;
        managers = λ e. clears-managers kind s 128 (omega arith) (omega arith) numbers h.slave.four;
      });
    }

-- ---- what touches neither the AL control word, nor an FMMU or a manager

pub record IsAside (w : Window) : Type 0 where
  pub registers : w.from + length w.bytes ≤ 0x0600
  pub low : touches w 0x0120 ≡ false
  pub high : touches w 0x0121 ≡ false

pub down-aside : (kind : SlaveKind) (i : ℕ) (f m : Bool) (trouble : Bool) (s : SlaveState) (w : Window) → IsAside w → Stands kind i (Down f m) trouble s → Stands kind i (Down f m) trouble (physical_after s false true w)
down-aside kind i f m trouble s w a h =
    let few = a.registers in
    let k : Wrote w s (physical_after s false true w) = wrote s w (omega (arith, few)) in
    let r = reached-low kind i (Down f m) trouble s (λ u. u) h in
    let room = h.slave.room in
    record {
      slave = slave-wrote kind w s (physical_after s false true w) k h.slave;
      at = inl (record {
        init = init-wrote w s (physical_after s false true w) room a.low a.high k r.init;
        fmmus = λ e b l. k.untouched (0x0600 + b) (omega (arith, room, l)) (within_above w.from (length w.bytes) (0x0600 + b) (omega (arith, few))) ∙ r.fmmus e b l;
        managers = λ e. clear-wrote w s (physical_after s false true w) h.slave.four (λ n l. unconfigured s.kind.hardware w n (inl (omega (arith, few)))) k (r.managers e);
      });
    }

pub lowered-aside : (kind : SlaveKind) (i : ℕ) (f m : Bool) (trouble : Bool) (s : SlaveState) (w : Window) → IsAside w
    → Stands kind i (Lowered f m) trouble s → Stands kind i (Lowered f m) trouble (physical_after s false true w)
lowered-aside kind i f m trouble s w a h =
    let few = a.registers in
    let k : Wrote w s (physical_after s false true w) = wrote s w (omega (arith, few)) in
    let r = reached-low kind i (Lowered f m) trouble s (λ u. u) h in
    let room = h.slave.room in
    record {
      slave = slave-wrote kind w s (physical_after s false true w) k h.slave;
      at = inl (record {
        low = fallen-wrote w s (physical_after s false true w) room a.low a.high k r.low;
        fmmus = λ e b l. k.untouched (0x0600 + b) (omega (arith, room, l)) (within_above w.from (length w.bytes) (0x0600 + b) (omega (arith, few))) ∙ r.fmmus e b l;
        managers = λ e. clear-wrote w s (physical_after s false true w) h.slave.four (λ n l. unconfigured s.kind.hardware w n (inl (omega (arith, few)))) k (r.managers e);
      });
    }

-- the station addresses, the error of the SII
pub stations-aside : IsAside (record { from = 0x0010; bytes = zeros 2 })
stations-aside = record { registers = omega arith; low = refl; high = refl }

pub sii-aside : IsAside (record { from = 0x0502; bytes = zeros 2 })
sii-aside = record { registers = omega arith; low = refl; high = refl }

-- ---- who has the SII: no register of a simulated slave, so nothing of what is known changes

abbrev pub assigned-sii : ℕ → Window
assigned-sii x = record { from = 0x0500; bytes = x ∷ [] }

sii-kept : (x : ℕ) (p : Sii) → (written p 0x0500 (x ∷ [])).busy ≡ p.busy
unfolding written
sii-kept x p = by p.busy refl
  where
    by : (b : Bool) → p.busy ≡ b → (written p 0x0500 (x ∷ [])).busy ≡ p.busy
    by true e = ap (λ (q : Sii). q.busy) (if_true _ _ _ e)
    by false e = ap (λ (q : Sii). q.busy) (if_false _ _ _ e)

-- no byte of the memory is stored
sii-memory : (s : SlaveState) (x a : ℕ) → length s.memory ≡ 0x3000 → Wrote (assigned-sii x) s (physical_after s false true (assigned-sii x)) → a < 0x0800
    → slice_index (physical_after s false true (assigned-sii x)).memory a ≡ slice_index s.memory a
unfolding is_stored_at
sii-memory s x a room k l = elim (cases_eq a 0x0500) [
  | inr ne ↦ k.untouched a (omega (arith, room, l)) (elim (cases_lt a 0x0500) [
    | inl b ↦ within_below 0x0500 1 a b
    | inr b ↦ within_above 0x0500 1 a (omega (arith, b, ne))
  ])
  | inl e ↦ subst (λ (y : ℕ). slice_index (physical_after s false true (assigned-sii x)).memory y ≡ slice_index s.memory y) (sym e)
      (ap (λ (t : SlaveState). slice_index t.memory 0x0500) (accesses_leave s (assigned-sii x)).written
      ∙ ((updated_by_index s.memory _).each 0x0500 (omega (arith, room)) ∙ ap (λ (o : Option ℕ). unwrap_or o (slice_index s.memory 0x0500)) (if_false _ _ _ (has-below s.kind.hardware 0x0500 (omega arith)))))
]

get_or-none : {X : Type 0} (xs : List X) (n : ℕ) (x : X) → length xs ≤ n → get_or xs n x ≡ x
get_or-none [] n x l = refl
get_or-none (y ∷ ys) zero x l = absurd (omega (arith, l))
get_or-none (y ∷ ys) (suc n) x l = get_or-none ys n x (omega (arith, l))

-- managers that are the same one by one
fronts-by : (ms ns : List SyncManager) → length ns ≡ length ms → length ms ≡ 4 → ((n : ℕ) → n < 4 → manager_at ns n ≡ manager_at ms n) → SameFronts ms ns
fronts-by ms ns count four h = record {
  four = count;
  each = λ n. elim (cases_lt n 4) [
    | inl l ↦ subst (λ (x : SyncManager). SameFront (manager_at ms n) x) (sym (h n l)) (front-refl (manager_at ms n))
    | inr g ↦ subst (λ (x : SyncManager). SameFront (manager_at ms n) x) (get_or-none ms n no_manager (omega (arith, four, g)) ∙ sym (get_or-none ns n no_manager (omega (arith, count, four, g)))) (front-refl (manager_at ms n))
  ];
  outputs = ap (λ (x : SyncManager). unviewed x.buffer) (h 2 (omega arith));
}

pub sii-alike : (s : SlaveState) (x : ℕ) → length s.memory ≡ 0x3000 → length s.managers ≡ 4 → Alike s (physical_after s false true (assigned-sii x))
sii-alike s x room four =
    let w : Window = assigned-sii x in
    let t : SlaveState = physical_after s false true w in
    let k : Wrote w s t = wrote s w (omega arith) in
    let same : (n : ℕ) → n < 4 → manager_at t.managers n ≡ manager_at s.managers n
    = λ n l. k.managers n (omega (arith, four, l)) ∙ if_false _ _ _ (unconfigured s.kind.hardware w n (inl (omega arith))) in
    record {
      kind = k.kind;
      room = k.room;
      memory = λ a l. sii-memory s x a room k l;
      managers = fronts-by s.managers t.managers k.count four same;
      idle = λ e. ap (λ (p : Sii). p.busy) k.sii ∙ (sii-kept x s.sii ∙ e);
      objects = objects-wrote w s t k (identity-wrote s w);
    }

pub assign-sii : (kind : SlaveKind) (i : ℕ) (st : Stage) (trouble : Bool) (s : SlaveState) (x : ℕ) → kind.face ≡ None → Stands kind i st trouble s → Stands kind i st trouble (physical_after s false true (assigned-sii x))
assign-sii kind i st trouble s x face h =
    let k : Wrote (assigned-sii x) s (physical_after s false true (assigned-sii x)) = wrote s (assigned-sii x) (omega arith) in
    stands-alike kind i st trouble s (physical_after s false true (assigned-sii x)) (sii-alike s x h.slave.room h.slave.four)
    (k.al ∙ if_false (touches (assigned-sii x) 0x0120) (requesting s.al) s.al (within_below 0x0500 1 0x0120 (omega arith)))
    (λ g. let e = gone-on st s g in ap (λ (t : SlaveState). physical_after t false true (assigned-sii x)) e ∙ (on_left s.kind s.identity x (ap (λ (k : SlaveKind). k.face) h.slave.kind_is ∙ face) ∙ sym e)) h
