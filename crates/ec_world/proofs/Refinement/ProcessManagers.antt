-- The sync managers of process data, as a plan sets them.
use Rattle.ec_world.proofs.Words.{ℕ, ◌+◌, ◌*◌, ◌<◌, ◌≡◌, ◌≢◌, ◌&&◌, not, true, false, Some, refl, ◌∙◌, ap, arith, if◌then◌else◌, List, [], ◌∷◌, map, Bool, Option, sym, subst, inl, inr, length, get_or, position_from, and_from, and_left, and_right, ne_eqb, eq-eqb, cases_Bool, both_ways, bytes_of_bits, if_true, if_false, within_true, SyncManagerSettings, no_settings, is_set, is_mailbox, span, SyncManager, may_read, may_write, may_app_put, may_app_get, no_manager, governs, governor, process_manager, has_byte, FitsRam, AreListed, output_manager, input_manager, get_or-map, length-map, no_fmmu, target, source, readers, writers, read_set_is_run, write_set_is_run, SlaveState, manager_at, fmmus, IsMapped, IsBufferAt, SlavePlan, area_of, link_fmmu_of as fmmu_of, Holds, is_buffered, buffer_length, cases_lt, Al, map-set_same, None, IsQuiet, cases_eq, get_or-set_same, get_or-set_other, set, ◌/◌, ◌%◌}
use Rattle.ec_regs.specs.Managers.{is_master_written, is_master_read}
use Rattle.ec_device.specs.Hardware.{out_manager, in_manager}
use Rattle.ec_link.proofs.ManagersApart.{process_data_is_buffered}

-- set for so many bits
abbrev pub for_bits : ℕ → ℕ → ℕ → SyncManagerSettings
for_bits bits start control = record { start = start; length = bytes_of_bits bits; control = control; activate = 1 }

pub some_bits : (bits start control : ℕ) → 0 < bits → process_manager start bits control ≡ for_bits bits start control
some_bits bits start control l = if_false _ _ _ (ne_eqb bits 0 (omega arith))

pub no_bits : (bits start control : ℕ) → bits ≡ 0 → process_manager start bits control ≡ no_settings
no_bits bits start control e = if_true _ _ _ (eq-eqb bits 0 e)

-- by the modes of outputs and of inputs
pub set_for_outs : (bits start control : ℕ) → control % 16 ≡ 4 → 0 < bits → FitsRam bits start → is_set (for_bits bits start control) ≡ true
set_for_outs bits start control mode l fits = let f = fits l in process_data_is_buffered.set start (bytes_of_bits bits) control (process_data_is_buffered.outputs control mode) (omega (arith, l)) f.0 f.1

pub set_for_ins : (bits start control : ℕ) → control % 16 ≡ 0 → 0 < bits → FitsRam bits start → is_set (for_bits bits start control) ≡ true
set_for_ins bits start control mode l fits = let f = fits l in process_data_is_buffered.set start (bytes_of_bits bits) control (process_data_is_buffered.inputs control mode) (omega (arith, l)) f.0 f.1

pub buffered_outs : (bits start control : ℕ) → control % 16 ≡ 4 → is_buffered (for_bits bits start control) ≡ true
buffered_outs bits start control mode = eq-eqb (control % 4) 0 (omega (arith, mode))

pub buffered_ins : (bits start control : ℕ) → control % 16 ≡ 0 → is_buffered (for_bits bits start control) ≡ true
buffered_ins bits start control mode = eq-eqb (control % 4) 0 (omega (arith, mode))

pub unset : is_set no_settings ≡ false
unfolding is_set
unset = refl

-- its buffer has room for the bits
pub buffer_long : (bits start control : ℕ) → (0 < bits → is_set (for_bits bits start control) ≡ true) → is_buffered (for_bits bits start control) ≡ true → buffer_length (process_manager start bits control) ≡ bytes_of_bits bits
buffer_long bits start control set buffered = elim (cases_lt 0 bits) [
  | inl l ↦ ap buffer_length (some_bits bits start control l) ∙ if_true _ _ _ (and_from _ _ (set l) buffered)
  | inr z ↦
      let none : bits ≡ 0 = omega arith in
      ap buffer_length (no_bits bits start control none) ∙ (if_false _ _ _ (and_left _ _ unset) ∙ ap bytes_of_bits (sym none))
]

-- ---- who governs

pub governor_of : (k : ℕ) (ms : List SyncManager) (a : ℕ) → position_from (λ m. governs m a) k ms ≡ position_from (λ x. has_byte x a) k (map (λ m. m.settings) ms)
governor_of k [] a = refl
governor_of k (m ∷ ms) a = ap (λ o. if governs m a then Some k else o) (governor_of (k + 1) ms a)

pub third_governs : (m0 m1 m2 m3 : SyncManagerSettings) (a : ℕ) → has_byte m0 a ≡ false → has_byte m1 a ≡ false → has_byte m2 a ≡ true → position_from (λ x. has_byte x a) 0 (m0 ∷ m1 ∷ m2 ∷ m3 ∷ []) ≡ Some 2
third_governs m0 m1 m2 m3 a e0 e1 e2 = if_false _ _ _ e0 ∙ (if_false _ _ _ e1 ∙ if_true _ _ _ e2)

pub fourth_governs : (m0 m1 m2 m3 : SyncManagerSettings) (a : ℕ) → has_byte m0 a ≡ false → has_byte m1 a ≡ false → has_byte m2 a ≡ false → has_byte m3 a ≡ true → position_from (λ x. has_byte x a) 0 (m0 ∷ m1 ∷ m2 ∷ m3 ∷ []) ≡ Some 3
fourth_governs m0 m1 m2 m3 a e0 e1 e2 e3 = if_false _ _ _ e0 ∙ (if_false _ _ _ e1 ∙ (if_false _ _ _ e2 ∙ if_true _ _ _ e3))

-- ---- who may do what

pub outs_enabled : (m : SyncManager) (bits start control : ℕ) → control % 16 ≡ 4 → 0 < bits → FitsRam bits start → m.settings ≡ process_manager start bits control → m.locked ≡ false → (may_write m ≡ true) × (may_app_get m ≡ true)
outs_enabled m bits start control mode l fits e u =
    let same : m.settings ≡ for_bits bits start control = e ∙ some_bits bits start control l in
    let on : (is_set m.settings && not m.locked) ≡ true = and_from _ _ (ap is_set same ∙ set_for_outs bits start control mode l fits) (ap not u) in
    let written : is_master_written m.settings ≡ true = ap is_master_written same ∙ eq-eqb (control / 4 % 4) 1 (omega (arith, mode)) in
    let box : is_mailbox m.settings ≡ false = ap is_mailbox same ∙ process_data_is_buffered.no_mailbox start (bytes_of_bits bits) control (process_data_is_buffered.outputs control mode) in
    (and_from _ _ on (and_from _ _ written (if_false _ _ _ box)), and_from _ _ on (and_from _ _ (ap is_buffered same ∙ buffered_outs bits start control mode) written))

pub ins_enabled : (m : SyncManager) (bits start control : ℕ) → control % 16 ≡ 0 → 0 < bits → FitsRam bits start → m.settings ≡ process_manager start bits control → m.locked ≡ false → (may_read m ≡ true) × (may_app_put m ≡ true)
ins_enabled m bits start control mode l fits e u =
    let same : m.settings ≡ for_bits bits start control = e ∙ some_bits bits start control l in
    let on : (is_set m.settings && not m.locked) ≡ true = and_from _ _ (ap is_set same ∙ set_for_ins bits start control mode l fits) (ap not u) in
    let read : is_master_read m.settings ≡ true = ap is_master_read same ∙ eq-eqb (control / 4 % 4) 0 (omega (arith, mode)) in
    let box : is_mailbox m.settings ≡ false = ap is_mailbox same ∙ process_data_is_buffered.no_mailbox start (bytes_of_bits bits) control (process_data_is_buffered.inputs control mode) in
    (and_from _ _ on (and_from _ _ read (if_false _ _ _ box)), and_from _ _ on (and_from _ _ (ap is_buffered same ∙ buffered_ins bits start control mode) read))

-- a locked manager denies
pub locked_denies : (m : SyncManager) → m.locked ≡ true → (may_write m ≡ false) × (may_app_get m ≡ false)
locked_denies m e =
    let off : (is_set m.settings && not m.locked) ≡ false = and_right _ _ (ap not e) in
    (and_left _ _ off, and_left _ _ off)

-- ---- a slave that holds its plan is mapped at its area

abbrev governor_by : List SyncManagerSettings → ℕ → Option ℕ
governor_by ms b = position_from (λ x. has_byte x b) 0 ms

pub settings_held : (i : ℕ) (p : SlavePlan) (s : SlaveState) (n : ℕ) → Holds i p s → (manager_at s.managers n).settings ≡ get_or p.managers n no_settings
settings_held i p s n h = sym (get_or-map (λ (m : SyncManager). m.settings) s.managers n no_manager) ∙ ap (λ xs. get_or xs n no_settings) h.managers

pub third_held : (i : ℕ) (p : SlavePlan) (s : SlaveState) → Holds i p s → AreListed p → (manager_at s.managers 2).settings ≡ output_manager p
third_held i p s h a = settings_held i p s 2 h ∙ ap (λ xs. get_or xs 2 no_settings) a.managers

pub fourth_held : (i : ℕ) (p : SlavePlan) (s : SlaveState) → Holds i p s → AreListed p → (manager_at s.managers 3).settings ≡ input_manager p
fourth_held i p s h a = settings_held i p s 3 h ∙ ap (λ xs. get_or xs 3 no_settings) a.managers

-- another value of a manager, with the same settings and no message, leaves what a slave holds, and leaves it quiet
pub still_holds : (i : ℕ) (p : SlavePlan) (s : SlaveState) (a : Al) (n : ℕ) (m : SyncManager) → m.settings ≡ (manager_at s.managers n).settings → Holds i p s
    → Holds i p (record s { al = a; managers = set s.managers n m })
still_holds i p s a n m e h = assumption (map-set_same (λ (x : SyncManager). x.settings) s.managers n m no_manager e ∙ h.managers)

pub still_quiet : (s : SlaveState) (a : Al) (n : ℕ) (m : SyncManager) → n < length s.managers → a.requested ≡ s.al.requested → m.mail ≡ None → IsQuiet s
    → IsQuiet (record s { al = a; managers = set s.managers n m })
still_quiet s a n m l same none q = assumption (same ∙ q.no_request, mail)
  where
    mail : (k : ℕ) → k ≢ 1 → (manager_at (set s.managers n m) k).mail ≡ None
    mail k other = elim (cases_eq k n) [
      | inl e ↦ ap (λ (j : ℕ). (manager_at (set s.managers n m) j).mail) e ∙ (ap (λ (x : SyncManager). x.mail) (get_or-set_same s.managers n m no_manager l) ∙ none)
      | inr ne ↦ ap (λ (x : SyncManager). x.mail) (get_or-set_other s.managers n k m no_manager ne) ∙ q.no_message k other
    ]

has_own : (bits start control k : ℕ) → is_set (for_bits bits start control) ≡ true → k < bytes_of_bits bits → has_byte (for_bits bits start control) (start + k) ≡ true
has_own bits start control k set l = and_from _ _ set (within_true start (span (for_bits bits start control)) (start + k) (omega arith) (longer (is_mailbox (for_bits bits start control))))
  where
    longer : (b : Bool) → start + k < start + (if b then bytes_of_bits bits else 3 * bytes_of_bits bits)
    longer true = omega arith
    longer false = omega arith

pub holds_mapped : (i : ℕ) (p : SlavePlan) (s : SlaveState) → Holds i p s → AreListed p → IsMapped s (area_of p)
holds_mapped i p s h a =
    let f0 = fmmu_of p 0 in
    let f1 = fmmu_of p 1 in
    let m0 = get_or p.managers 0 no_settings in
    let m1 = get_or p.managers 1 no_settings in
    let m2 = output_manager p in
    let m3 = input_manager p in
    let oc : ℕ = (out_manager p.kind.hardware).control in
    let ic : ℕ = (in_manager p.kind.hardware).control in
    let fs : fmmus s ≡ f0 ∷ f1 ∷ no_fmmu ∷ no_fmmu ∷ [] = h.fmmus ∙ a.fmmus in
    let of : (b : ℕ) → governor s.managers b ≡ governor_by (m0 ∷ m1 ∷ m2 ∷ m3 ∷ []) b = λ b. governor_of 0 s.managers b ∙ ap (λ xs. governor_by xs b) (h.managers ∙ a.managers) in
    let apart : (n k b : ℕ) → n < k → k < 4 → has_byte (get_or (m0 ∷ m1 ∷ m2 ∷ m3 ∷ []) n no_settings) b ≡ true → has_byte (get_or (m0 ∷ m1 ∷ m2 ∷ m3 ∷ []) k no_settings) b ≡ false
    = λ n k b l x e. ap (λ xs. has_byte (get_or xs k no_settings) b) (sym a.managers) ∙ a.apart n k b l x (ap (λ xs. has_byte (get_or xs n no_settings) b) a.managers ∙ e) in
    let below : (n k b : ℕ) → n < k → k < 4 → has_byte (get_or (m0 ∷ m1 ∷ m2 ∷ m3 ∷ []) k no_settings) b ≡ true → has_byte (get_or (m0 ∷ m1 ∷ m2 ∷ m3 ∷ []) n no_settings) b ≡ false
    = λ n k b l x e. elim (cases_Bool (has_byte (get_or (m0 ∷ m1 ∷ m2 ∷ m3 ∷ []) n no_settings) b)) [ inl t ↦ absurd (both_ways _ (apart n k b l x t) e) | inr f ↦ f ] in
    let some_ins : (k : ℕ) → k < bytes_of_bits p.share.ins → 0 < p.share.ins = λ k l. omega arith in
    let some_outs : (k : ℕ) → k < bytes_of_bits p.share.outs → 0 < p.share.outs = λ k l. omega arith in
    let ins_own : (k : ℕ) → k < bytes_of_bits p.share.ins → has_byte m3 (p.kind.in_start + k) ≡ true
    = λ k l. ap (λ m. has_byte m (p.kind.in_start + k)) (some_bits p.share.ins p.kind.in_start ic (some_ins k l)) ∙ has_own p.share.ins p.kind.in_start ic k (set_for_ins p.share.ins p.kind.in_start ic a.in_mode (some_ins k l) a.in_fits) l in
    let outs_own : (k : ℕ) → k < bytes_of_bits p.share.outs → has_byte m2 (p.kind.out_start + k) ≡ true
    = λ k l. ap (λ m. has_byte m (p.kind.out_start + k)) (some_bits p.share.outs p.kind.out_start oc (some_outs k l)) ∙ has_own p.share.outs p.kind.out_start oc k (set_for_outs p.share.outs p.kind.out_start oc a.out_mode (some_outs k l) a.out_fits) l in
    let held : (n : ℕ) → (manager_at s.managers n).settings ≡ get_or (m0 ∷ m1 ∷ m2 ∷ m3 ∷ []) n no_settings = λ n. settings_held i p s n h ∙ ap (λ xs. get_or xs n no_settings) a.managers in
    record {
      four = sym (length-map s.managers (λ m. m.settings)) ∙ (ap length h.managers ∙ ap length a.managers);
      reads = λ l. ap (λ xs. target (readers xs) l) fs ∙ read_set_is_run f0 f1 no_fmmu no_fmmu (area_of p).in_at p.share.ins p.kind.in_start l a.out_only refl refl a.in_run;
      writes = λ q. ap (λ xs. source (writers xs) q) fs ∙ write_set_is_run f0 f1 no_fmmu no_fmmu (area_of p).out_at p.share.outs p.kind.out_start q a.in_only refl refl a.out_run;
      in_governed = λ k l.
          let b = p.kind.in_start + k in
          let own = ins_own k l in
          of b ∙ fourth_governs m0 m1 m2 m3 b (below 0 3 b (omega arith) (omega arith) own) (below 1 3 b (omega arith) (omega arith) own) (below 2 3 b (omega arith) (omega arith) own) own;
      out_governed = λ k l.
          let b = p.kind.out_start + k in
          let own = outs_own k l in
          of b ∙ third_governs m0 m1 m2 m3 b (below 0 2 b (omega arith) (omega arith) own) (below 1 2 b (omega arith) (omega arith) own) own;
      in_buffer = λ l. subst (λ (m : SyncManagerSettings). IsBufferAt m p.kind.in_start (bytes_of_bits p.share.ins)) (sym (held 3 ∙ some_bits p.share.ins p.kind.in_start ic l))
          (let f = a.in_fits l in let z = a.in_mode in record { start_is = refl; length_is = refl; no_mailbox = process_data_is_buffered.no_mailbox p.kind.in_start (bytes_of_bits p.share.ins) ic (process_data_is_buffered.inputs ic z); from_ram = f.0; to_ram = let x = f.1 in omega arith });
      out_buffer = λ l. subst (λ (m : SyncManagerSettings). IsBufferAt m p.kind.out_start (bytes_of_bits p.share.outs)) (sym (held 2 ∙ some_bits p.share.outs p.kind.out_start oc l))
          (let f = a.out_fits l in let z = a.out_mode in record { start_is = refl; length_is = refl; no_mailbox = process_data_is_buffered.no_mailbox p.kind.out_start (bytes_of_bits p.share.outs) oc (process_data_is_buffered.outputs oc z); from_ram = f.0; to_ram = let x = f.1 in omega arith });
    }
