-- A slave that holds the managers and the FMMUs of its plan is mapped at its area.
use Rattle.ec_bringup.proofs.Words.{ℕ, ◌+◌, ◌*◌, ◌<◌, ◌≡◌, Bool, true, false, Some, refl, sym, ◌∙◌, ap, subst, inl, inr, arith, if◌then◌else◌, List, [], ◌∷◌, length, map, get_or, cases_Bool, both_ways, and_from, if_true, if_false, within_true, bytes_of_bits, is_set, is_mailbox, span, SyncManagerSettings, no_settings, no_fmmu, SyncManager, SlaveState, manager_at, fmmus, SlavePlan, no_manager}
use Rattle.std.proofs.Math.ListN.{get_or-map}
use Rattle.std.specs.Option.{ForSome}
use Rattle.ec_device.specs.Hardware.{IsHardware, out_manager, in_manager}
use Rattle.ec_regs.specs.Managers.{area_settings}
use Rattle.ec_sync.specs.Governing.{governor, governs}
use Rattle.ec_slave.specs.Interface.{IsBufferAt}
use Rattle.ec_fmmu.specs.Sets.{target, source, readers, writers}
use Rattle.ec_fmmu.proofs.RunLaws.{read_set_is_run, write_set_is_run}
use Rattle.std.specs.List.{position_from}
use Rattle.ec_slave.specs.Exchange.{IsMapped}
use Rattle.ec_link.specs.Interface.{AreListed, IsOfBuffer, FitsRam, has_byte, output_manager, input_manager}
use Rattle.ec_link.specs.Meaning.{area_of}
use Rattle.ec_link.specs.Sound.{fmmu_of}
use Rattle.ec_link.proofs.ManagersApart.{process_data_is_buffered as buffered}

-- ---- who governs a byte

-- by the settings alone
pub governor_of : (k : ℕ) (ms : List SyncManager) (a : ℕ) → position_from (λ m. governs m a) k ms ≡ position_from (λ x. has_byte x a) k (map (λ m. m.settings) ms)
governor_of k [] a = refl
governor_of k (m ∷ ms) a = ap (λ o. if governs m a then Some k else o) (governor_of (k + 1) ms a)

third_governs : (m0 m1 m2 m3 : SyncManagerSettings) (a : ℕ) → has_byte m0 a ≡ false → has_byte m1 a ≡ false → has_byte m2 a ≡ true → position_from (λ x. has_byte x a) 0 (m0 ∷ m1 ∷ m2 ∷ m3 ∷ []) ≡ Some 2
third_governs m0 m1 m2 m3 a e0 e1 e2 = if_false _ _ _ e0 ∙ (if_false _ _ _ e1 ∙ if_true _ _ _ e2)

fourth_governs : (m0 m1 m2 m3 : SyncManagerSettings) (a : ℕ) → has_byte m0 a ≡ false → has_byte m1 a ≡ false → has_byte m2 a ≡ false → has_byte m3 a ≡ true → position_from (λ x. has_byte x a) 0 (m0 ∷ m1 ∷ m2 ∷ m3 ∷ []) ≡ Some 3
fourth_governs m0 m1 m2 m3 a e0 e1 e2 e3 = if_false _ _ _ e0 ∙ (if_false _ _ _ e1 ∙ (if_false _ _ _ e2 ∙ if_true _ _ _ e3))

-- ---- a buffered manager with bits

pub set-process : (start bits control : ℕ) → IsOfBuffer control → 0 < bits → FitsRam bits start → is_set (area_settings start (bytes_of_bits bits) control) ≡ true
set-process start bits control mode l fits = let f = fits l in buffered.set start (bytes_of_bits bits) control mode (omega arith) f.0 f.1

has_own : (start bits control k : ℕ) → is_set (area_settings start (bytes_of_bits bits) control) ≡ true → k < bytes_of_bits bits → has_byte (area_settings start (bytes_of_bits bits) control) (start + k) ≡ true
has_own start bits control k set l = and_from _ _ set (within_true start (span (area_settings start (bytes_of_bits bits) control)) (start + k) (omega arith) (longer (is_mailbox (area_settings start (bytes_of_bits bits) control))))
  where
    longer : (b : Bool) → start + k < start + (if b then bytes_of_bits bits else 3 * bytes_of_bits bits)
    longer true = omega arith
    longer false = omega arith

buffer-at : (start bits control : ℕ) → IsOfBuffer control → 0 < bits → FitsRam bits start → IsBufferAt (area_settings start (bytes_of_bits bits) control) start (bytes_of_bits bits)
buffer-at start bits control mode l fits =
    let f = fits l in
    record { start_is = refl; length_is = refl; no_mailbox = buffered.no_mailbox start (bytes_of_bits bits) control mode; from_ram = f.0; to_ram = let x = f.1 in omega (arith, x) }

-- ---- the area

pub four-managers : (ms : List SyncManager) → length ms ≡ 4 → (x : List SyncManagerSettings) → length x ≡ 4 → ((n : ℕ) → n < 4 → (manager_at ms n).settings ≡ get_or x n no_settings) → map (λ (m : SyncManager). m.settings) ms ≡ x
four-managers (a ∷ b ∷ c ∷ d ∷ []) e (p ∷ q ∷ r ∷ s ∷ []) f h =
    let h0 : a.settings ≡ p = h 0 (omega arith) in
    let h1 : b.settings ≡ q = h 1 (omega arith) in
    let h2 : c.settings ≡ r = h 2 (omega arith) in
    let h3 : d.settings ≡ s = h 3 (omega arith) in
    rw (h0, h1, h2, h3) refl
four-managers [] e x f h = absurd (omega (arith, e))
four-managers (a ∷ []) e x f h = absurd (omega (arith, e))
four-managers (a ∷ b ∷ []) e x f h = absurd (omega (arith, e))
four-managers (a ∷ b ∷ c ∷ []) e x f h = absurd (omega (arith, e))
four-managers (a ∷ b ∷ c ∷ d ∷ g ∷ ms) e x f h = absurd (omega (arith, e))
four-managers (a ∷ b ∷ c ∷ d ∷ []) e [] f h = absurd (omega (arith, f))
four-managers (a ∷ b ∷ c ∷ d ∷ []) e (p ∷ []) f h = absurd (omega (arith, f))
four-managers (a ∷ b ∷ c ∷ d ∷ []) e (p ∷ q ∷ []) f h = absurd (omega (arith, f))
four-managers (a ∷ b ∷ c ∷ d ∷ []) e (p ∷ q ∷ r ∷ []) f h = absurd (omega (arith, f))
four-managers (a ∷ b ∷ c ∷ d ∷ []) e (p ∷ q ∷ r ∷ s ∷ t ∷ x) f h = absurd (omega (arith, f))

pub mapped-area : (p : SlavePlan) (s : SlaveState) → length s.managers ≡ 4 → fmmus s ≡ p.fmmus → map (λ (m : SyncManager). m.settings) s.managers ≡ p.managers
    → AreListed p → ForSome p.kind.hardware (IsHardware p.kind.mailbox) → IsMapped s (area_of p)
mapped-area p s four held managed a hw =
    let f0 = fmmu_of p 0 in
    let f1 = fmmu_of p 1 in
    let m0 = get_or p.managers 0 no_settings in
    let m1 = get_or p.managers 1 no_settings in
    let m2 = output_manager p in
    let m3 = input_manager p in
    let oc : ℕ = (out_manager p.kind.hardware).control in
    let ic : ℕ = (in_manager p.kind.hardware).control in
    let om : IsOfBuffer oc = buffered.type_outputs p.kind.mailbox p.kind.hardware hw in
    let im : IsOfBuffer ic = buffered.type_inputs p.kind.mailbox p.kind.hardware hw in
    let fs : fmmus s ≡ f0 ∷ f1 ∷ no_fmmu ∷ no_fmmu ∷ [] = held ∙ a.fmmus in
    let list : map (λ (m : SyncManager). m.settings) s.managers ≡ m0 ∷ m1 ∷ m2 ∷ m3 ∷ [] = managed ∙ a.managers in
    let of : (b : ℕ) → governor s.managers b ≡ position_from (λ x. has_byte x b) 0 (m0 ∷ m1 ∷ m2 ∷ m3 ∷ []) = λ b. governor_of 0 s.managers b ∙ ap (λ xs. position_from (λ x. has_byte x b) 0 xs) list in
    let apart : (n k b : ℕ) → n < k → k < 4 → has_byte (get_or (m0 ∷ m1 ∷ m2 ∷ m3 ∷ []) n no_settings) b ≡ true → has_byte (get_or (m0 ∷ m1 ∷ m2 ∷ m3 ∷ []) k no_settings) b ≡ false
    = λ n k b l x e. ap (λ xs. has_byte (get_or xs k no_settings) b) (sym a.managers) ∙ a.apart n k b l x (ap (λ xs. has_byte (get_or xs n no_settings) b) a.managers ∙ e) in
    let below : (n k b : ℕ) → n < k → k < 4 → has_byte (get_or (m0 ∷ m1 ∷ m2 ∷ m3 ∷ []) k no_settings) b ≡ true → has_byte (get_or (m0 ∷ m1 ∷ m2 ∷ m3 ∷ []) n no_settings) b ≡ false
    = λ n k b l x e. elim (cases_Bool (has_byte (get_or (m0 ∷ m1 ∷ m2 ∷ m3 ∷ []) n no_settings) b)) [ inl t ↦ absurd (both_ways _ (apart n k b l x t) e) | inr f ↦ f ] in
    let some_ins : (k : ℕ) → k < bytes_of_bits p.share.ins → 0 < p.share.ins = λ k l. omega (arith, l) in
    let some_outs : (k : ℕ) → k < bytes_of_bits p.share.outs → 0 < p.share.outs = λ k l. omega (arith, l) in
    let ins_own : (k : ℕ) → k < bytes_of_bits p.share.ins → has_byte m3 (p.kind.in_start + k) ≡ true
    = λ k l. ap (λ m. has_byte m (p.kind.in_start + k)) (buffered.some p.kind.in_start p.share.ins ic (some_ins k l))
    ∙ has_own p.kind.in_start p.share.ins ic k (set-process p.kind.in_start p.share.ins ic im (some_ins k l) a.in_fits) l in
    let outs_own : (k : ℕ) → k < bytes_of_bits p.share.outs → has_byte m2 (p.kind.out_start + k) ≡ true
    = λ k l. ap (λ m. has_byte m (p.kind.out_start + k)) (buffered.some p.kind.out_start p.share.outs oc (some_outs k l))
    ∙ has_own p.kind.out_start p.share.outs oc k (set-process p.kind.out_start p.share.outs oc om (some_outs k l) a.out_fits) l in
    let at : (n : ℕ) → (manager_at s.managers n).settings ≡ get_or (m0 ∷ m1 ∷ m2 ∷ m3 ∷ []) n no_settings = λ n. settings-at s.managers n ∙ ap (λ xs. get_or xs n no_settings) list in
    record {
      four = four;
      reads = λ l. ap (λ xs. target (readers xs) l) fs ∙ read_set_is_run f0 f1 no_fmmu no_fmmu p.from p.share.ins p.kind.in_start l a.out_only refl refl a.in_run;
      writes = λ q. ap (λ xs. source (writers xs) q) fs ∙ write_set_is_run f0 f1 no_fmmu no_fmmu p.from p.share.outs p.kind.out_start q a.in_only refl refl a.out_run;
      in_governed = λ k l.
          let b = p.kind.in_start + k in
          let own = ins_own k l in
          of b ∙ fourth_governs m0 m1 m2 m3 b (below 0 3 b (omega arith) (omega arith) own) (below 1 3 b (omega arith) (omega arith) own) (below 2 3 b (omega arith) (omega arith) own) own;
      out_governed = λ k l.
          let b = p.kind.out_start + k in
          let own = outs_own k l in
          of b ∙ third_governs m0 m1 m2 m3 b (below 0 2 b (omega arith) (omega arith) own) (below 1 2 b (omega arith) (omega arith) own) own;
      in_buffer = λ l. subst (λ (m : SyncManagerSettings). IsBufferAt m p.kind.in_start (bytes_of_bits p.share.ins)) (sym (at 3 ∙ buffered.some p.kind.in_start p.share.ins ic l))
          (buffer-at p.kind.in_start p.share.ins ic im l a.in_fits);
      out_buffer = λ l. subst (λ (m : SyncManagerSettings). IsBufferAt m p.kind.out_start (bytes_of_bits p.share.outs)) (sym (at 2 ∙ buffered.some p.kind.out_start p.share.outs oc l))
          (buffer-at p.kind.out_start p.share.outs oc om l a.out_fits);
    }
  where
    settings-at : (ms : List SyncManager) (n : ℕ) → (manager_at ms n).settings ≡ get_or (map (λ (m : SyncManager). m.settings) ms) n no_settings
    settings-at ms n = sym (get_or-map (λ (m : SyncManager). m.settings) ms n no_manager)
