-- Lower-numbered managers, or all of them: the same values.
use Rattle.std.proofs.Common.{ℕ, ◌+◌, ◌*◌, ◌/◌, ◌<◌, ◌≤◌, ◌≡◌, ◌==◌, ◌&&◌, Bool, true, false, Option, Some, None, refl, sym, ◌∙◌, ap, subst, inl, inr, arith, if◌then◌else◌, is_none, List, [], ◌∷◌, ◌++◌, length, unwrap_or, append_assoc, length-append}
use Rattle.std.specs.List.{position_from}
use Rattle.std.proofs.lemmas.Bool.{cases_Bool, and_left, and_right, and_parts, and_from, eq-eqb, ne_eqb}
use Rattle.std.proofs.lemmas.List.{length-replicate}
use Rattle.ec_bits.specs.Bits.{bit, zeros}
use Rattle.ec_bits.proofs.AnyLaws.{any_below-alike, if_true, if_false, within_true}
use Rattle.ec_bits.proofs.BitLaws.{overlay_alike}
use Rattle.ec_device.specs.declared.hardware.Hardware.{Hardware}
use Rattle.ec_regs.specs.declared.fmmu.FmmuSettings.{FmmuSettings}
use Rattle.ec_regs.specs.Managers.{is_set, is_mailbox, span}
use Rattle.ec_sync.specs.SyncManager.{SyncManager, configured, may_read, may_write, is_enabled, ring_read, ring_written}
use Rattle.ec_sync.specs.Governing.{governor, governs, covers}
use Rattle.ec_fmmu.specs.Applied.{LogicalSpan, touched_by_reading, touched_by_writing}
use Rattle.ec_slave.specs.Managers.{gets_at, is_read_by, is_ungoverned, is_written_by, manager_after}
use Rattle.ec_slave.specs.Physical.{Window, touches, byte_from, updated_from, is_configured, settings_written, physical_value, physical_manager, physical_managers}
use Rattle.ec_slave.specs.Logical.{brought, logical_value, logical_managers}
use Rattle.ec_slave.specs.AgainstAll.{is_governor, governs_among, each_from, value_among, bits_among, PhysicalAgainstAll, LogicalAgainstAll}

abbrev or_after : Option ℕ → Option ℕ → Option ℕ
or_after None o = o
or_after (Some i) o = Some i

position_from-append : (t : SyncManager → Bool) (k : ℕ) (xs ys : List SyncManager) → position_from t k (xs ++ ys) ≡ or_after (position_from t k xs) (position_from t (k + length xs) ys)
position_from-append t k [] ys = let e : k + 0 ≡ k = omega arith in rw e refl
position_from-append t k (x ∷ xs) ys = elim (cases_Bool (t x)) as (λ _. position_from t k (x ∷ xs ++ ys) ≡ or_after (position_from t k (x ∷ xs)) (position_from t (k + length (x ∷ xs)) ys)) [
  | inl h ↦ rw h refl
  | inr h ↦
      let e : k + 1 + length xs ≡ k + length (x ∷ xs) = omega arith in
      rw h (position_from-append t (k + 1) xs ys ∙ ap (λ n. or_after (position_from t (k + 1) xs) (position_from t n ys)) e)
]

pub position_from-below : (t : SyncManager → Bool) (k : ℕ) (xs : List SyncManager) (i : ℕ) → position_from t k xs ≡ Some i → i < k + length xs
position_from-below t k [] i e = absurd (let f : None ≡ Some i = e in cc)
position_from-below t k (x ∷ xs) i e = elim (cases_Bool (t x)) [
  | inl h ↦
      let f : Some k ≡ Some i = sym (if_true (t x) (Some k) (position_from t (k + 1) xs) h) ∙ e in
      let g : k ≡ i = cc in
      omega arith
  | inr h ↦
      let f : position_from t (k + 1) xs ≡ Some i = sym (if_false (t x) (Some k) (position_from t (k + 1) xs) h) ∙ e in
      let g = position_from-below t (k + 1) xs i f in
      omega arith
]

-- a manager that has a byte in its span governs it among all where no lower one does
own_among : (lower : List SyncManager) (m : SyncManager) (ms : List SyncManager) (a : ℕ) → governs m a ≡ true
    → is_ungoverned lower a ≡ governs_among (lower ++ m ∷ ms) (length lower) a
own_among lower m ms a g =
    let t = λ (x : SyncManager). governs x a in
    let whole : governor (lower ++ m ∷ ms) a ≡ or_after (governor lower a) (position_from t (length lower) (m ∷ ms))
    = let z : 0 + length lower ≡ length lower = omega arith in
    position_from-append t 0 lower (m ∷ ms) ∙ ap (λ n. or_after (governor lower a) (position_from t n (m ∷ ms))) z in
    let here : position_from t (length lower) (m ∷ ms) ≡ Some (length lower) = if_true _ _ _ g in
    by_lower (governor lower a) refl whole here
  where
    by_lower : (low : Option ℕ) → governor lower a ≡ low
        → governor (lower ++ m ∷ ms) a ≡ or_after (governor lower a) (position_from (λ (x : SyncManager). governs x a) (length lower) (m ∷ ms))
        → position_from (λ (x : SyncManager). governs x a) (length lower) (m ∷ ms) ≡ Some (length lower)
        → is_ungoverned lower a ≡ governs_among (lower ++ m ∷ ms) (length lower) a
    by_lower None e whole here =
        let all : governor (lower ++ m ∷ ms) a ≡ Some (length lower) = whole ∙ (ap (λ w. or_after w (position_from (λ (x : SyncManager). governs x a) (length lower) (m ∷ ms))) e ∙ here) in
        ap is_none e ∙ sym (ap (is_governor (length lower)) all ∙ eq-eqb (length lower) (length lower) refl)
    by_lower (Some i) e whole here =
        let all : governor (lower ++ m ∷ ms) a ≡ Some i = whole ∙ ap (λ w. or_after w (position_from (λ (x : SyncManager). governs x a) (length lower) (m ∷ ms))) e in
        let below : i < 0 + length lower = position_from-below (λ (x : SyncManager). governs x a) 0 lower i e in
        let other : (i == length lower) ≡ false = ne_eqb i (length lower) (λ q. omega arith) in
        ap is_none e ∙ sym (ap (is_governor (length lower)) all ∙ other)

-- what a manager that governs a byte gets of it
told_among : {X : Type 0} (lower : List SyncManager) (m : SyncManager) (ms : List SyncManager) (a : ℕ) (o : Option X) → governs m a ≡ true
    → (if is_ungoverned lower a then o else None) ≡ (if governs_among (lower ++ m ∷ ms) (length lower) a then o else None)
told_among lower m ms a o g = ap (λ (b : Bool). if b then o else None) (own_among lower m ms a g)

-- a set manager governs each byte of its value
pub governs-value : (m : SyncManager) (k : ℕ) → is_set m.settings ≡ true → k < m.settings.length → governs m (m.settings.start + k) ≡ true
governs-value m k set l =
    let long : m.settings.length ≤ span m.settings = elim (cases_Bool (is_mailbox m.settings)) [
      | inl h ↦ let e : span m.settings ≡ m.settings.length = if_true _ _ _ h in omega arith
      | inr h ↦ let e : span m.settings ≡ 3 * m.settings.length = if_false _ _ _ h in omega arith
    ] in
    and_from _ _ set (within_true m.settings.start (span m.settings) (m.settings.start + k) (omega arith) (omega arith))

-- one that may be written, or read, is set
pub writable-set : (m : SyncManager) → may_write m ≡ true → is_set m.settings ≡ true
writable-set m w = (and_parts (is_set m.settings) _ (and_parts (is_enabled m) _ w).0).0

pub readable-set : (m : SyncManager) → may_read m ≡ true → is_set m.settings ≡ true
readable-set m r = (and_parts (is_set m.settings) _ (and_parts (is_enabled m) _ r).0).0

pub updated_alike : (k : ℕ) (xs : List ℕ) (f g : ℕ → Option ℕ) → ((i : ℕ) → i < k + length xs → f i ≡ g i) → updated_from k xs f ≡ updated_from k xs g
updated_alike k [] f g h = refl
updated_alike k (x ∷ xs) f g h =
    ap (λ o. unwrap_or o x ∷ updated_from (k + 1) xs f) (h k (omega arith))
    ∙ ap (λ ys. unwrap_or (g k) x ∷ ys) (updated_alike (k + 1) xs f g (λ i l. h i (omega arith)))

-- an access gets at a manager by the bytes of its value that are its own, and by no other
pub gets_at-alike : (t own their : ℕ → Bool) (m : SyncManager) → ((k : ℕ) → k < m.settings.length → own (m.settings.start + k) ≡ their (m.settings.start + k))
    → gets_at t own m ≡ gets_at t their m
gets_at-alike t own their m h =
    ap (λ (b : Bool). covers t m && b)
    (any_below-alike m.settings.length _ _ (λ k l. ap (λ (b : Bool). t (m.settings.start + k) && b) (h k l)))

-- a manager after an access goes by what is said of it where it is set
after_alike : (reads writes : Bool) (rt wt own their : ℕ → Bool) (v u : ℕ → ℕ → List ℕ) (m : SyncManager)
    → (is_set m.settings ≡ true → (k : ℕ) → k < m.settings.length → own (m.settings.start + k) ≡ their (m.settings.start + k))
    → (is_set m.settings ≡ true → v m.settings.start m.settings.length ≡ u m.settings.start m.settings.length)
    → manager_after reads writes rt wt own v m ≡ manager_after reads writes rt wt their u m
after_alike reads writes rt wt own their v u m h e = elim (cases_Bool (is_set m.settings)) [
  | inl s ↦
      let w = gets_at-alike wt own their m (h s) in
      let r = gets_at-alike rt own their m (h s) in
      ap (λ (b : Bool). if writes && (may_write m && b) then ring_written m (v m.settings.start m.settings.length) else (if reads && is_read_by rt own m then ring_read m else m)) w
      ∙ (ap (λ (b : Bool). if writes && is_written_by wt their m then ring_written m (v m.settings.start m.settings.length) else (if reads && (may_read m && b) then ring_read m else m)) r
      ∙ ap (λ (x : List ℕ). if writes && is_written_by wt their m then ring_written m x else (if reads && is_read_by rt their m then ring_read m else m)) (e s))
  | inr f ↦ unset_stays own v f ∙ sym (unset_stays their u f)
]
  where
    unset_stays : (mine : ℕ → Bool) (x : ℕ → ℕ → List ℕ) → is_set m.settings ≡ false → manager_after reads writes rt wt mine x m ≡ m
    unset_stays mine x f =
        if_false _ _ _ (and_right writes _ (and_left _ _ (and_left _ _ (and_left _ _ f))))
        ∙ if_false _ _ _ (and_right reads _ (and_left _ _ (and_left _ _ (and_left _ _ f))))

owned-among : (lower : List SyncManager) (m : SyncManager) (ms : List SyncManager) → is_set m.settings ≡ true → (k : ℕ) → k < m.settings.length
    → is_ungoverned lower (m.settings.start + k) ≡ governs_among (lower ++ m ∷ ms) (length lower) (m.settings.start + k)
owned-among lower m ms s k l = own_among lower m ms (m.settings.start + k) (governs-value m k s l)

physical_value-among : (lower : List SyncManager) (m : SyncManager) (ms : List SyncManager) (w : Window) → is_set m.settings ≡ true
    → physical_value lower w m.settings.start m.settings.length ≡ value_among (lower ++ m ∷ ms) w (length lower) m.settings.start m.settings.length
physical_value-among lower m ms w h =
    updated_alike 0 (zeros m.settings.length) _ _ (λ k l.
    let z : k < m.settings.length = let e = length-replicate {A = ℕ} m.settings.length 0 in omega (arith, e) in
    told_among lower m ms (m.settings.start + k) (byte_from w (m.settings.start + k)) (governs-value m k h z))

logical_value-among : (lower : List SyncManager) (m : SyncManager) (ms : List SyncManager) (fs : List FmmuSettings) (p : LogicalSpan) (bytes : List ℕ) → is_set m.settings ≡ true
    → logical_value lower fs p bytes m.settings.start m.settings.length ≡ bits_among (lower ++ m ∷ ms) fs p bytes (length lower) m.settings.start m.settings.length
logical_value-among lower m ms fs p bytes h =
    overlay_alike (zeros m.settings.length) _ _ (λ k l. ap (λ o. unwrap_or o (bit (zeros m.settings.length) k))
    (let z : k < 8 * m.settings.length = let e = length-replicate {A = ℕ} m.settings.length 0 in omega (arith, e) in
    let at : m.settings.start + k / 8 ≡ (8 * m.settings.start + k) / 8 = omega arith in
    let g : governs m ((8 * m.settings.start + k) / 8) ≡ true = subst (λ (a : ℕ). governs m a ≡ true) at (governs-value m (k / 8) h (omega arith)) in
    told_among lower m ms ((8 * m.settings.start + k) / 8) (brought fs p bytes (8 * m.settings.start + k)) g))

abbrev physical_by : Option Hardware → List SyncManager → Bool → Bool → Window → ℕ → SyncManager → SyncManager
physical_by o all reads writes w n m =
    if writes && is_configured o w n then configured m (settings_written o w n m)
    else manager_after reads writes (touches w) (touches w) (governs_among all n) (value_among all w n) m

physical_from : (o : Option Hardware) (lower ms : List SyncManager) (reads writes : Bool) (w : Window)
    → physical_managers o lower reads writes w (length lower) ms ≡ each_from (length lower) (physical_by o (lower ++ ms) reads writes w) ms
unfolding physical_manager
physical_from o lower [] reads writes w = refl
physical_from o lower (m ∷ ms) reads writes w =
    let one : physical_manager o lower reads writes w (length lower) m ≡ physical_by o (lower ++ m ∷ ms) reads writes w (length lower) m
    = ap (λ x. if writes && is_configured o w (length lower) then configured m (settings_written o w (length lower) m) else x)
    (after_alike reads writes (touches w) (touches w) (is_ungoverned lower) (governs_among (lower ++ m ∷ ms) (length lower)) (physical_value lower w) (value_among (lower ++ m ∷ ms) w (length lower)) m (owned-among lower m ms) (physical_value-among lower m ms w)) in
    let next : length (lower ++ m ∷ []) ≡ length lower + 1 = length-append lower (m ∷ []) in
    let all : (lower ++ m ∷ []) ++ ms ≡ lower ++ m ∷ ms = append_assoc lower (m ∷ []) ms in
    let rest : physical_managers o (lower ++ m ∷ []) reads writes w (length lower + 1) ms ≡ each_from (length lower + 1) (physical_by o (lower ++ m ∷ ms) reads writes w) ms
    = ap (λ k. physical_managers o (lower ++ m ∷ []) reads writes w k ms) (sym next)
    ∙ (physical_from o (lower ++ m ∷ []) ms reads writes w
    ∙ (ap (λ k. each_from k (physical_by o ((lower ++ m ∷ []) ++ ms) reads writes w) ms) next
    ∙ ap (λ xs. each_from (length lower + 1) (physical_by o xs reads writes w) ms) all)) in
    ap (λ x. x ∷ physical_managers o (lower ++ m ∷ []) reads writes w (length lower + 1) ms) one
    ∙ ap (λ xs. physical_by o (lower ++ m ∷ ms) reads writes w (length lower) m ∷ xs) rest

pub physical_against_all : PhysicalAgainstAll
physical_against_all o reads writes w ms = physical_from o [] ms reads writes w

abbrev logical_by : List SyncManager → Bool → Bool → List FmmuSettings → LogicalSpan → List ℕ → ℕ → SyncManager → SyncManager
logical_by all reading writing fs p bytes n m =
    manager_after reading writing (touched_by_reading fs p) (touched_by_writing fs p) (governs_among all n) (bits_among all fs p bytes n) m

logical_from : (lower ms : List SyncManager) (reading writing : Bool) (fs : List FmmuSettings) (p : LogicalSpan) (bytes : List ℕ)
    → logical_managers lower reading writing fs p bytes ms ≡ each_from (length lower) (logical_by (lower ++ ms) reading writing fs p bytes) ms
logical_from lower [] reading writing fs p bytes = refl
logical_from lower (m ∷ ms) reading writing fs p bytes =
    let one : manager_after reading writing (touched_by_reading fs p) (touched_by_writing fs p) (is_ungoverned lower) (logical_value lower fs p bytes) m ≡ logical_by (lower ++ m ∷ ms) reading writing fs p bytes (length lower) m
    = after_alike reading writing (touched_by_reading fs p) (touched_by_writing fs p) (is_ungoverned lower) (governs_among (lower ++ m ∷ ms) (length lower)) (logical_value lower fs p bytes) (bits_among (lower ++ m ∷ ms) fs p bytes (length lower)) m (owned-among lower m ms) (logical_value-among lower m ms fs p bytes) in
    let next : length (lower ++ m ∷ []) ≡ length lower + 1 = length-append lower (m ∷ []) in
    let all : (lower ++ m ∷ []) ++ ms ≡ lower ++ m ∷ ms = append_assoc lower (m ∷ []) ms in
    let rest : logical_managers (lower ++ m ∷ []) reading writing fs p bytes ms ≡ each_from (length lower + 1) (logical_by (lower ++ m ∷ ms) reading writing fs p bytes) ms
    = logical_from (lower ++ m ∷ []) ms reading writing fs p bytes
    ∙ (ap (λ k. each_from k (logical_by ((lower ++ m ∷ []) ++ ms) reading writing fs p bytes) ms) next
    ∙ ap (λ xs. each_from (length lower + 1) (logical_by xs reading writing fs p bytes) ms) all) in
    ap (λ x. x ∷ logical_managers (lower ++ m ∷ []) reading writing fs p bytes ms) one
    ∙ ap (λ xs. logical_by (lower ++ m ∷ ms) reading writing fs p bytes (length lower) m ∷ xs) rest

pub logical_against_all : LogicalAgainstAll
logical_against_all reading writing fs p bytes ms = logical_from [] ms reading writing fs p bytes
