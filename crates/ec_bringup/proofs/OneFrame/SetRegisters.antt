-- Registers that are set at one slave: the SII command, a manager, an FMMU.
use Rattle.ec_bringup.proofs.Words.{ℕ, ◌+◌, ◌-◌, ◌*◌, ◌<◌, ◌≤◌, ◌≡◌, ◌≢◌, Bool, true, false, Option, None, refl, sym, ◌∙◌, ap, subst, inl, inr, arith, if◌then◌else◌, List, length, slice_index, set, get_or-set_same, get_or-set_other, both_ways, cases_eq, cases_lt, or_left, or_right, within, if_true, if_false, within_true, within_below, within_above, SyncManagerSettings, FmmuSettings, SlaveKind, ram_start, is_stored, no_settings, manager_bytes, fmmu_bytes, no_fmmu, SyncManager, configured, Fpwr, Datagram, IsDatagram, Init, PreOp, Sii, written, byte_for, commanded, addressed, address_written, read_command, SlaveState, manager_at, station_of, Window, physical_after, is_configured, settings_written, settings_at, fmmu_at, AskWord, SetManager, SetFmmu, station, word_address_of, Rise, Stays, Config, Up, Talk, CanAct, IsLow, HoldsZeros, IsConfigured, IsSilent, Talks, IsUpAt, IsTop, Rises, Claims, Wrote, set_by, wrote, unconfigured, Falls, Hardware, fmmu_count, shown_fmmu, manager_number, other_name, naming_manager, slaves_take_names, AreNumbered, ManagerRegister, register_of, cases_Bool, Al, IsAtInit, IsEarly, IsAssigned, is_init, left_to_say, dictionary_of, Came, SdoRequest}
use Rattle.ec_bringup.proofs.OneSlave.Alike.{SameObjects, assigned-same, left-same, left-init, rises-alike, word_of}
use Rattle.ec_bringup.proofs.OneSlave.Lacking.{keeps-there, has-own}
use Rattle.ec_bringup.proofs.OneFrame.OtherSlaves.{ForAskWord, ForSetManager, ForSetFmmu, Owes, as_one}
use Rattle.ec_bringup.proofs.OneFrame.RegisterWrites.{set-locked, slave-wrote, objects-wrote, identity-wrote, window-sent, pass-own}

-- ---- what stays where neither the station address nor the AL control word is written

pub record Aside (w : Window) : Type 0 where
  pub from : 0x0122 ≤ w.from
  pub registers : w.from + length w.bytes ≤ ram_start

aside-below : (w : Window) (s t : SlaveState) (a : ℕ) → Aside w → Wrote w s t → length s.memory ≡ 0x3000 → a < 0x0122 → slice_index t.memory a ≡ slice_index s.memory a
aside-below w s t a h k room l = let f = h.from in k.untouched a (omega (arith, room, l)) (within_below w.from (length w.bytes) a (omega (arith, f, l)))

aside-station : (w : Window) (s t : SlaveState) → Aside w → Wrote w s t → length s.memory ≡ 0x3000 → station_of t ≡ station_of s
aside-station w s t h k room =
    ap (λ (x : ℕ). x + 256 * slice_index t.memory 0x0011) (aside-below w s t 0x0010 h k room (omega arith)) ∙ ap (λ (x : ℕ). slice_index s.memory 0x0010 + 256 * x) (aside-below w s t 0x0011 h k room (omega arith))

aside-word : (w : Window) (s t : SlaveState) → Aside w → Wrote w s t → length s.memory ≡ 0x3000 → word_of t.memory ≡ word_of s.memory
aside-word w s t h k room =
    ap (λ (x : ℕ). x + 256 * slice_index t.memory 0x0121) (aside-below w s t 0x0120 h k room (omega arith)) ∙ ap (λ (x : ℕ). slice_index s.memory 0x0120 + 256 * x) (aside-below w s t 0x0121 h k room (omega arith))

pub aside-busy : (w : Window) (p : Sii) → 0x0508 ≤ w.from → (written p w.from w.bytes).busy ≡ p.busy
unfolding written
aside-busy w p l = by p.busy refl
  where
    if_none-byte : within w.from (length w.bytes) 0x0503 ≡ false → byte_for w.from w.bytes 0x0503 ≡ None
    if_none-byte e = if_false _ _ _ e

    by : (b : Bool) → p.busy ≡ b → (written p w.from w.bytes).busy ≡ p.busy
    by true e = ap (λ (q : Sii). q.busy) (if_true _ _ _ e)
    by false e = ap (λ (q : Sii). q.busy) (if_false _ _ _ e ∙ ap (λ (o : Option ℕ). commanded (addressed p (address_written p.address w.from w.bytes)) o) (if_none-byte (within_below w.from (length w.bytes) 0x0503 (omega (arith, l)))))

-- the messages, where a slave is silent
quiet-messages : (c d : Config) (s t : SlaveState) → d.outs ≡ c.outs → d.ins ≡ c.ins → d.done ≡ c.done → ((manager_at s.managers 0).mail ≡ None → (manager_at t.managers 0).mail ≡ None)
    → ((manager_at s.managers 1).mail ≡ left_to_say c s → (manager_at t.managers 1).mail ≡ left_to_say d t) → SameObjects s t → IsSilent c s → IsSilent d t
quiet-messages c d s t eo ei ed m0 m1 same h =
    let a : IsAssigned c t = assigned-same c s t same h.assigned in
    record {
      no_message = m0 h.no_message;
      no_reply = m1 h.no_reply;
      assigned = record {
        outs = subst (λ k. Claims k t.outs) (sym eo) a.outs;
        ins = subst (λ k. Claims k t.ins) (sym ei) a.ins;
        came = subst (λ (rs : List SdoRequest). Came t.kind rs (dictionary_of t)) (sym ed) a.came;
      };
    }

-- whatever the write does to a manager that is empty leaves it empty
abbrev mail_of : SyncManager → Option (List ℕ)
mail_of m = m.mail

set-mail : (o : Option Hardware) (w : Window) (n : ℕ) (m : SyncManager) → m.mail ≡ None → (set_by o w n m).mail ≡ None
set-mail o w n m e = elim (is_configured o w n) as (λ b. mail_of (if b then configured m (settings_written o w n m) else m) ≡ None) [ true ↦ refl | false ↦ e ]

-- what is left to say stays in manager 1, if that isn't set in PREOP
left-set : (c d : Config) (s t : SlaveState) (w : Window) → Wrote w s t → length s.managers ≡ 4 → d.done ≡ c.done → t.al ≡ s.al → (is_configured s.kind.hardware w 1 ≡ true → s.al.state ≡ Init)
    → (manager_at s.managers 1).mail ≡ left_to_say c s → (manager_at t.managers 1).mail ≡ left_to_say d t
left-set c d s t w k four ed al init h = elim (cases_Bool (is_configured s.kind.hardware w 1)) [
  | inl y ↦
      let state = init y in
      let none : (manager_at s.managers 1).mail ≡ None = h ∙ left-init c s state in
      ap (λ (m : SyncManager). m.mail) (k.managers 1 (omega (arith, four)))
      ∙ (set-mail s.kind.hardware w 1 (manager_at s.managers 1) none ∙ sym (left-init d t (ap (λ (x : Al). x.state) al ∙ state)))
  | inr n ↦
      let same : manager_at t.managers 1 ≡ manager_at s.managers 1 = k.managers 1 (omega (arith, four)) ∙ if_false _ _ _ n in
      ap (λ (m : SyncManager). m.mail) same
      ∙ (h ∙ sym (left-same c d s t k.kind (ap (λ (m : SyncManager). m.settings) same) (ap (λ (x : Al). is_init x.state) al) ed))
]

-- new settings leave zeros
set-zeros : (o : Option Hardware) (w : Window) (n : ℕ) (m : SyncManager) → HoldsZeros m → HoldsZeros (set_by o w n m)
set-zeros o w n m h = elim (is_configured o w n) as (λ b. HoldsZeros (if b then configured m (settings_written o w n m) else m)) [ true ↦ refl | false ↦ h ]

-- in INIT
pub at-init : (r : Rise) (s : SlaveState) → IsAtInit r → Rises r s → s.al.state ≡ Init
at-init Falls s at h = h.state
at-init (Stays Init) s at h = h.state
at-init _ s at h = absurd at

-- a slave that is silent, after registers were set: what is left to show is what they set
pub set-up : (i : ℕ) (c d : Config) (s t : SlaveState) (w : Window) → Aside w → Wrote w s t → length s.memory ≡ 0x3000 → length s.managers ≡ 4 → c.talk ≡ None
    → d.talk ≡ None → d.outs ≡ c.outs → d.ins ≡ c.ins → d.rise ≡ c.rise → d.done ≡ c.done → t.identity ≡ s.identity → (is_configured s.kind.hardware w 1 ≡ true → IsAtInit c.rise)
    → ((n : ℕ) → n < 4 → (manager_at t.managers n).settings ≡ settings_at d.managers n)
    → ((n k : ℕ) → n < 4 → k < 16 → slice_index t.memory (0x0600 + 16 * n + k) ≡ slice_index (fmmu_bytes (shown_fmmu t.kind.hardware (fmmu_at d.fmmus n))) k)
    → (d.idle ≡ true → t.sii.busy ≡ false)
    → IsUpAt i c s → IsUpAt i d t
set-up i c d s t w h k room four none free eo ei er ed same_identity init settings fmmus idle u =
    let mail : (n : ℕ) → n < 4 → (manager_at s.managers n).mail ≡ None → (manager_at t.managers n).mail ≡ None
    = λ n l e. ap (λ (m : SyncManager). m.mail) (k.managers n (omega (arith, four, l))) ∙ set-mail s.kind.hardware w n (manager_at s.managers n) e in
    let silent : IsSilent c s = subst (λ (o : Option Talk). Talks i c o s) none u.talks in
    let al : t.al ≡ s.al = k.al ∙ if_false _ _ _ (within_below w.from (length w.bytes) 0x0120 (omega (arith, h.from))) in
    record {
      configured = record {
        station_is = aside-station w s t h k room ∙ u.configured.station_is;
        settings = settings;
        fmmus = fmmus;
        idle = idle;
        no_messages = λ n a l. mail n l (u.configured.no_messages n a l);
        outputs = subst HoldsZeros (sym (k.managers 2 (omega (arith, four)))) (set-zeros s.kind.hardware w 2 (manager_at s.managers 2) u.configured.outputs);
      };
      unlocked = λ n l. ap (λ (m : SyncManager). m.locked) (k.managers n (omega (arith, four, l))) ∙ (set-locked s.kind.hardware w n (manager_at s.managers n) ∙ u.unlocked n l);
      rises = subst (λ (r : Rise). Rises r t) (sym er) (rises-alike c.rise s t k.kind (aside-word w s t h k room) al u.rises);
      talks = subst (λ (o : Option Talk). Talks i d o t) (sym free)
          (quiet-messages c d s t eo ei ed (λ e. mail 0 (omega arith) e) (left-set c d s t w k four ed al (λ y. at-init c.rise s (init y) u.rises)) (objects-wrote w s t k same_identity) silent);
      early = λ e. let q = u.early (subst IsEarly er e) in (free, ed ∙ q.1);
      quiet = λ _. free;
    }

pub low-top : (r : Rise) → IsLow r → IsTop r → ⊥
low-top Falls low top = top
low-top (Stays Init) low top = top
low-top (Stays PreOp) low top = top
low-top _ low top = low

-- settings and FMMUs that a write leaves
same-settings : (c : Config) (i : ℕ) (w : Window) (s t : SlaveState) (n : ℕ) → Wrote w s t → length s.managers ≡ 4 → n < 4 → is_configured s.kind.hardware w n ≡ false → IsConfigured i c s → (manager_at t.managers n).settings ≡ settings_at c.managers n
same-settings c i w s t n k four l e h = ap (λ (m : SyncManager). m.settings) (k.managers n (omega (arith, four, l)) ∙ if_false _ _ _ e) ∙ h.settings n l

-- the FMMUs as the registers have them, of a slave that keeps its type
shown-same : (c : Config) (s t : SlaveState) (n b : ℕ) → t.kind ≡ s.kind
    → slice_index (fmmu_bytes (shown_fmmu s.kind.hardware (fmmu_at c.fmmus n))) b ≡ slice_index (fmmu_bytes (shown_fmmu t.kind.hardware (fmmu_at c.fmmus n))) b
shown-same c s t n b e = ap (λ (x : SlaveKind). slice_index (fmmu_bytes (shown_fmmu x.hardware (fmmu_at c.fmmus n))) b) (sym e)

-- ---- the SII

abbrev reading : ℕ → Window
reading which = record { from = 0x0502; bytes = read_command (word_address_of which) }

pub pass-ask-word : (kind : SlaveKind) (i which : ℕ) (c : Config) (trouble : Bool) (number : ℕ) (d : Datagram) (s : SlaveState)
    → i < 64 → CanAct c (AskWord i which) → IsDatagram d → Owes kind i (Up c) trouble (AskWord i which) number d s
pass-ask-word kind i which c trouble number d s l can good arrives h =
    let n6 : length (reading which).bytes ≡ 6 = refl in
    let inside : 0x0502 + length (reading which).bytes ≤ ram_start = omega (arith, n6) in
    let k : Wrote (reading which) s (physical_after s false true (reading which)) = wrote s (reading which) inside in
    pass-own kind i c trouble (AskWord i which) number d s (reading which) (as_one number (ForAskWord i which)) l refl (window-sent Fpwr (station i) 0x0502 (read_command (word_address_of which)) number) (omega arith)
    (λ r. r) (low-top c.rise can.0)
    (λ q u. slave-wrote kind (reading which) s (physical_after s false true (reading which)) k q)
    (λ q u. set-up i c (record c { idle = false }) s (physical_after s false true (reading which)) (reading which) (record { from = omega arith; registers = inside }) k q.room q.four can.1 can.1 refl refl refl refl (identity-wrote s (reading which))
    (λ y. absurd (both_ways _ (unconfigured s.kind.hardware (reading which) 1 (inl (omega (arith, n6)))) y))
    (λ n b. same-settings c i (reading which) s (physical_after s false true (reading which)) n k q.four b (unconfigured s.kind.hardware (reading which) n (inl (omega (arith, n6)))) u.configured)
    (λ n b x y. k.untouched (0x0600 + 16 * n + b) (let f = q.room in omega (arith, f, x, y)) (within_above 0x0502 (length (reading which).bytes) (0x0600 + 16 * n + b) (omega (arith, n6)))
    ∙ (u.configured.fmmus n b x y ∙ shown-same c s (physical_after s false true (reading which)) n b k.kind))
    (λ e. absurd (both_ways false refl e)) u)
    good arrives h

-- ---- an FMMU

-- a write of the registers of FMMU n
abbrev mapping : ℕ → FmmuSettings → Window
mapping n f = record { from = 0x0600 + 16 * n; bytes = fmmu_bytes f }

pub fmmu-stored : (n b : ℕ) → n < 4 → b < 16 → is_stored (0x0600 + 16 * n + b) ≡ true
fmmu-stored n b l m = or_right _ _ (or_right _ _ (or_left _ _ (within_true 0x0600 64 (0x0600 + 16 * n + b) (omega arith) (omega (arith, l, m)))))

fmmu-taken : (n : ℕ) (f : FmmuSettings) (s t : SlaveState) (b : ℕ) → Wrote (mapping n f) s t → length s.memory ≡ 0x3000 → n < 4 → n < fmmu_count s.kind.hardware → b < 16
    → slice_index t.memory (0x0600 + 16 * n + b) ≡ slice_index (fmmu_bytes f) b
fmmu-taken n f s t b k room l has m =
    let z : 0x0600 + 16 * n + b - (0x0600 + 16 * n) ≡ b = omega arith in
    k.taken (0x0600 + 16 * n + b) (omega (arith, room, l, m)) (omega (arith, l, m)) (within_true (0x0600 + 16 * n) 16 (0x0600 + 16 * n + b) (omega arith) (omega (arith, m)))
    (keeps-there s.kind.hardware (0x0600 + 16 * n + b) (has-own s.kind.hardware n b has m) (fmmu-stored n b l m))
    (within_below 0x0800 32 (0x0600 + 16 * n + b) (omega (arith, l, m))) ∙ ap (λ (x : ℕ). slice_index (fmmu_bytes f) x) z

fmmu-left : (n j : ℕ) (f : FmmuSettings) (s t : SlaveState) (b : ℕ) → Wrote (mapping n f) s t → length s.memory ≡ 0x3000 → j < 4 → b < 16 → j ≢ n → slice_index t.memory (0x0600 + 16 * j + b) ≡ slice_index s.memory (0x0600 + 16 * j + b)
fmmu-left n j f s t b k room l m ne =
    k.untouched (0x0600 + 16 * j + b) (omega (arith, room, l, m)) (elim (cases_lt j n) [
      | inl a ↦ within_below (0x0600 + 16 * n) 16 (0x0600 + 16 * j + b) (omega (arith, a, m))
      | inr a ↦ within_above (0x0600 + 16 * n) 16 (0x0600 + 16 * j + b) (omega (arith, a, ne))
    ])

-- f as the registers have it
set-fmmus : (n : ℕ) (f : FmmuSettings) (c : Config) (i : ℕ) (s t : SlaveState) → Wrote (mapping n (shown_fmmu s.kind.hardware f)) s t → length s.memory ≡ 0x3000 → n < 4 → n < fmmu_count s.kind.hardware
    → n < length c.fmmus → IsConfigured i c s → (j b : ℕ) → j < 4 → b < 16
    → slice_index t.memory (0x0600 + 16 * j + b) ≡ slice_index (fmmu_bytes (shown_fmmu t.kind.hardware (fmmu_at (set c.fmmus n f) j))) b
set-fmmus n f c i s t k room l has there h j b x y =
    let g : FmmuSettings = shown_fmmu s.kind.hardware f in
    elim (cases_eq j n) [
      | inl e ↦ subst (λ (z : ℕ). slice_index t.memory (0x0600 + 16 * z + b) ≡ slice_index (fmmu_bytes (shown_fmmu t.kind.hardware (fmmu_at (set c.fmmus n f) z))) b) (sym e)
          (fmmu-taken n g s t b k room l has y
          ∙ (ap (λ (q : FmmuSettings). slice_index (fmmu_bytes (shown_fmmu s.kind.hardware q)) b) (sym (get_or-set_same c.fmmus n f no_fmmu there))
          ∙ shown-same (record c { fmmus = set c.fmmus n f }) s t n b k.kind))
      | inr ne ↦ fmmu-left n j g s t b k room x y ne
          ∙ (h.fmmus j b x y ∙ (ap (λ (q : FmmuSettings). slice_index (fmmu_bytes (shown_fmmu s.kind.hardware q)) b) (sym (get_or-set_other c.fmmus n j f no_fmmu ne))
          ∙ shown-same (record c { fmmus = set c.fmmus n f }) s t j b k.kind))
    ]

pub pass-set-fmmu : (kind : SlaveKind) (i n : ℕ) (f : FmmuSettings) (start : ℕ) (c : Config) (trouble : Bool) (number : ℕ) (d : Datagram) (s : SlaveState)
    → i < 64 → CanAct c (SetFmmu i n f start) → start ≡ other_name kind.hardware f.physical_start → n < fmmu_count kind.hardware → IsDatagram d
    → Owes kind i (Up c) trouble (SetFmmu i n f start) number d s
pass-set-fmmu kind i n f start c trouble number d s l can named has good arrives h =
    let b4 : n < 4 = omega (arith, can.1, can.2) in
    let own : kind ≡ s.kind = sym h.slave.kind_is in
    let w : Window = mapping n (shown_fmmu s.kind.hardware f) in
    -- what was sent is f as the registers of this slave have it
    let same : record f { physical_start = start } ≡ shown_fmmu s.kind.hardware f
    = ap (λ (x : ℕ). record f { physical_start = x }) (named ∙ ap (λ (k : SlaveKind). other_name k.hardware f.physical_start) own) in
    let k : Wrote w s (physical_after s false true w) = wrote s w (omega (arith, b4)) in
    let there : n < fmmu_count s.kind.hardware = subst (λ (x : SlaveKind). n < fmmu_count x.hardware) own has in
    pass-own kind i c trouble (SetFmmu i n f start) number d s w (as_one number (ForSetFmmu i n f start)) l refl
    (window-sent Fpwr (station i) (0x0600 + 16 * n) (fmmu_bytes (record f { physical_start = start })) number ∙ ap (mapping n) same) (omega (arith, b4))
    (λ r. r) (low-top c.rise can.0)
    (λ q u. slave-wrote kind w s (physical_after s false true w) k q)
    (λ q u. set-up i c (record c { fmmus = set c.fmmus n f }) s (physical_after s false true w) w (record { from = omega arith; registers = omega (arith, b4) }) k q.room q.four can.3 can.3 refl refl refl refl (identity-wrote s w)
    (λ y. absurd (both_ways _ (unconfigured s.kind.hardware w 1 (inl (omega (arith, b4)))) y))
    (λ j x. same-settings c i w s (physical_after s false true w) j k q.four x (unconfigured s.kind.hardware w j (inl (omega (arith, b4)))) u.configured)
    (set-fmmus n f c i s (physical_after s false true w) k q.room b4 there can.1 u.configured)
    (λ e. ap (λ (p : Sii). p.busy) k.sii ∙ (aside-busy w s.sii (omega arith) ∙ u.configured.idle e)) u)
    good arrives h

-- ---- a manager

-- the write of the manager of a role, by the number and the address that the slave has for it
abbrev managing : Option Hardware → ℕ → SyncManagerSettings → Window
managing o n m = naming_manager o n m

set-managers : (n : ℕ) (m : SyncManagerSettings) (c : Config) (i : ℕ) (s t : SlaveState) → AreNumbered s.kind.hardware → Wrote (managing s.kind.hardware n m) s t → length s.managers ≡ 4 → n < 4
    → n < length c.managers → IsConfigured i c s → (j : ℕ) → j < 4 → (manager_at t.managers j).settings ≡ settings_at (set c.managers n m) j
set-managers n m c i s t numbered k four l there h j x =
    let names = slaves_take_names s n numbered l in
    elim (cases_eq j n) [
      | inl e ↦ subst (λ (z : ℕ). (manager_at t.managers z).settings ≡ settings_at (set c.managers n m) z) (sym e)
          (ap (λ (y : SyncManager). y.settings) (k.managers n (omega (arith, four, l)) ∙ if_true _ _ _ (names.set m))
          ∙ (names.taken m ∙ sym (get_or-set_same c.managers n m no_settings there)))
      | inr ne ↦ same-settings c i (managing s.kind.hardware n m) s t j k four x (names.others m j x ne) h ∙ sym (get_or-set_other c.managers n j m no_settings ne)
    ]

pub pass-set-manager : (kind : SlaveKind) (i n : ℕ) (m : SyncManagerSettings) (r : ManagerRegister) (c : Config) (trouble : Bool) (number : ℕ) (d : Datagram) (s : SlaveState)
    → i < 64 → CanAct c (SetManager i n m r) → r ≡ register_of kind n m → AreNumbered kind.hardware → IsDatagram d → Owes kind i (Up c) trouble (SetManager i n m r) number d s
pass-set-manager kind i n m r c trouble number d s l can named numbered good arrives h =
    let b4 : n < 4 = omega (arith, can.1, can.2) in
    let own : kind ≡ s.kind = sym h.slave.kind_is in
    let w : Window = managing s.kind.hardware n m in
    let numbers : AreNumbered s.kind.hardware = subst (λ (x : SlaveKind). AreNumbered x.hardware) own numbered in
    let at : manager_number s.kind.hardware n < 4 = numbers.few n b4 in
    let same : r ≡ register_of s.kind n m = named ∙ ap (λ (x : SlaveKind). register_of x n m) own in
    let low : r.number < 4 = subst (λ (x : ManagerRegister). x.number < 4) (sym same) at in
    let k : Wrote w s (physical_after s false true w) = wrote s w (omega (arith, at)) in
    pass-own kind i c trouble (SetManager i n m r) number d s w (as_one number (ForSetManager i n m r)) l refl
    (window-sent Fpwr (station i) (0x0800 + 8 * r.number) (manager_bytes (record m { start = r.start })) number
    ∙ ap (λ (x : ManagerRegister). record { from = 0x0800 + 8 * x.number; bytes = manager_bytes (record m { start = x.start }) }) same) (omega (arith, low))
    (λ r. r) (low-top c.rise can.0)
    (λ q u. slave-wrote kind w s (physical_after s false true w) k q)
    (λ q u. set-up i c (record c { managers = set c.managers n m }) s (physical_after s false true w) w (record { from = omega arith; registers = omega (arith, at) }) k q.room q.four can.3 can.3 refl refl refl refl (identity-wrote s w)
    (λ y. elim (cases_lt n 2) [
      | inl f ↦ can.4 f
      | inr f ↦ absurd (both_ways _ ((slaves_take_names s n numbers b4).others m 1 (omega arith) (λ z. omega (arith, z, f))) y)
    ])
    (set-managers n m c i s (physical_after s false true w) numbers k q.four b4 can.1 u.configured)
    (λ j b x y. k.untouched (0x0600 + 16 * j + b) (let f = q.room in omega (arith, f, x, y)) (within_below (0x0800 + 8 * manager_number s.kind.hardware n) 8 (0x0600 + 16 * j + b) (omega (arith, x, y)))
    ∙ (u.configured.fmmus j b x y ∙ shown-same c s (physical_after s false true w) j b k.kind))
    (λ e. ap (λ (p : Sii). p.busy) k.sii ∙ (aside-busy w s.sii (omega arith) ∙ u.configured.idle e)) u)
    good arrives h
