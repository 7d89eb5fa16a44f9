-- Where nothing that is read of the memory is written there, a datagram that reads and writes may write first.
use Rattle.std.proofs.Common.{ℕ, zero, suc, ◌+◌, ◌-◌, ◌*◌, ◌/◌, ◌%◌, ◌<◌, ◌≡◌, ◌&&◌, Bool, true, false, Option, Some, None, is_some, is_none, option_map, option_and_then, unwrap_or, refl, sym, ◌∙◌, ap, subst, inl, inr, arith, if◌then◌else◌, nat_lt, List, [], ◌∷◌, ◌++◌, length, map}
use Rattle.std.specs.List.{position_from}
use Rattle.std.proofs.lemmas.Bool.{cases_Bool, and_left, and_right, and_parts, eqb-true}
use Rattle.ec_bits.specs.Bits.{bit, overlay, within}
use Rattle.ec_bits.proofs.AnyLaws.{any_below-alike, if_true, if_false, if_none}
use Rattle.ec_bits.proofs.BitLaws.{bit-overlay, overlay_alike, overlay_own}
use Rattle.ec_regs.specs.declared.fmmu.FmmuSettings.{FmmuSettings}
use Rattle.ec_regs.specs.declared.manager.SyncManagerSettings.{SyncManagerSettings}
use Rattle.ec_regs.specs.Managers.{is_mailbox, is_master_read, is_master_written, is_set, span}
use Rattle.ec_regs.specs.Memory.{ram_end}
use Rattle.ec_sync.specs.Buffer.{publishing}
use Rattle.ec_sync.specs.SyncManager.{SyncManager, no_manager, is_enabled, may_read, may_write, ring_read, ring_written, visible}
use Rattle.ec_sync.specs.Governing.{governor, governs}
use Rattle.ec_fmmu.specs.Applied.{LogicalSpan, inside_span, touched_by_reading, touched_by_writing}
use Rattle.ec_fmmu.specs.Sets.{readers, source, target, writers}
use Rattle.ec_fmmu.proofs.PairLaws.{none_or_some}
use Rattle.ec_fmmu.proofs.RangeLaws.{reading_pair}
use Rattle.ec_slave.specs.State.{SlaveState, fmmus, manager_at, with_memory}
use Rattle.ec_slave.specs.Managers.{gets_at, is_read_by, is_ungoverned, is_written_by, manager_after, reads_under, visible_under}
use Rattle.ec_slave.specs.Logical.{logical_after, logical_managers, only_if, plain_bit, read_bit, readable_bit, some_read, logical_value}
use Rattle.ec_slave.specs.Mapped.{MayWriteFirst}
use Rattle.ec_slave.proofs.Memory.AgainstAll.{gets_at-alike}
use Rattle.ec_slave.proofs.LogicalAccess.SlaveWritten.{decoded-mapped}

-- ---- one manager

abbrev mail_kept : SyncManager → List ℕ → SyncManager
mail_kept m v = record m { mail = Some v }

abbrev value_kept : SyncManager → List ℕ → SyncManager
value_kept m v = record m { buffer = publishing m.buffer v; awaited = false }

written_settings : (m : SyncManager) (v : List ℕ) → (ring_written m v).settings ≡ m.settings
written_settings m v = elim (cases_Bool (is_mailbox m.settings)) [
  | inl on ↦ ap (λ (x : SyncManager). x.settings) (if_true (is_mailbox m.settings) (mail_kept m v) (value_kept m v) on)
  | inr off ↦ ap (λ (x : SyncManager). x.settings) (if_false (is_mailbox m.settings) (mail_kept m v) (value_kept m v) off)
]

-- what the ring writes it doesn't read
one_way : (x : SyncManagerSettings) → is_master_written x ≡ true → is_master_read x ≡ false
one_way x h = elim (cases_Bool (is_master_read x)) [
  | inl r ↦
      let a : x.control / 4 % 4 ≡ 1 = eqb-true (x.control / 4 % 4) 1 h in
      let b : x.control / 4 % 4 ≡ 0 = eqb-true (x.control / 4 % 4) 0 r in
      absurd (omega (arith, a, b))
  | inr f ↦ f
]

unread : (m : SyncManager) → is_master_read m.settings ≡ false → may_read m ≡ false
unread m h = and_right (is_enabled m) _ (and_left (is_master_read m.settings) _ h)

writable_way : (m : SyncManager) → may_write m ≡ true → is_master_written m.settings ≡ true
writable_way m h = (and_parts (is_master_written m.settings) _ (and_parts (is_enabled m) _ h).1).0

-- what stays of a manager that is written first
record Alike (m n : SyncManager) : Type 0 where
  settings : n.settings ≡ m.settings
  reads : may_read n ≡ may_read m
  shows : may_read m ≡ true → visible n ≡ visible m

alike_own : (m : SyncManager) → Alike m m
alike_own m = record { settings = refl; reads = refl; shows = λ h. refl }

alike_written : (m : SyncManager) (v : List ℕ) → may_write m ≡ true → Alike m (ring_written m v)
alike_written m v h =
    let way : is_master_read m.settings ≡ false = one_way m.settings (writable_way m h) in
    let same : (ring_written m v).settings ≡ m.settings = written_settings m v in
    let there : may_read m ≡ false = unread m way in
    record {
      settings = same;
      reads = unread (ring_written m v) (ap is_master_read same ∙ way) ∙ sym there;
      shows = λ t. absurd (let e : true ≡ false = sym t ∙ there in cc);
    }

alike_after : (rt wt own : ℕ → Bool) (v : ℕ → ℕ → List ℕ) (m : SyncManager) → Alike m (manager_after false true rt wt own v m)
alike_after rt wt own v m = elim (cases_Bool (is_written_by wt own m)) [
  | inl w ↦ subst (λ (x : SyncManager). Alike m x) (sym (if_true (is_written_by wt own m) (ring_written m (v m.settings.start m.settings.length)) m w))
      (alike_written m (v m.settings.start m.settings.length) (and_parts (may_write m) _ w).0)
  | inr f ↦ subst (λ (x : SyncManager). Alike m x) (sym (if_false (is_written_by wt own m) (ring_written m (v m.settings.start m.settings.length)) m f)) (alike_own m)
]

-- ---- who governs goes by the settings

abbrev has : ℕ → SyncManagerSettings → Bool
has a x = is_set x && within x.start (span x) a

abbrev settings_in : List SyncManager → List SyncManagerSettings
settings_in ms = map (λ (m : SyncManager). m.settings) ms

by_settings : (k a : ℕ) (ms : List SyncManager) → position_from (λ m. governs m a) k ms ≡ position_from (has a) k (settings_in ms)
by_settings k a [] = refl
by_settings k a (m ∷ ms) = ap (λ (o : Option ℕ). if governs m a then Some k else o) (by_settings (k + 1) a ms)

governor_same : (ms ns : List SyncManager) (a : ℕ) → settings_in ns ≡ settings_in ms → governor ns a ≡ governor ms a
governor_same ms ns a e = by_settings 0 a ns ∙ (ap (λ (xs : List SyncManagerSettings). position_from (has a) 0 xs) e ∙ sym (by_settings 0 a ms))

settings_more : (ms : List SyncManager) (m : SyncManager) → settings_in (ms ++ m ∷ []) ≡ settings_in ms ++ m.settings ∷ []
settings_more [] m = refl
settings_more (x ∷ ms) m = ap (λ (xs : List SyncManagerSettings). x.settings ∷ xs) (settings_more ms m)

-- ---- all managers, written first

abbrev first_written : List SyncManager → List FmmuSettings → LogicalSpan → List ℕ → List SyncManager → List SyncManager
first_written lower fs p b ms = logical_managers lower false true fs p b ms

settings_first : (lower : List SyncManager) (fs : List FmmuSettings) (p : LogicalSpan) (b : List ℕ) (ms : List SyncManager) → settings_in (first_written lower fs p b ms) ≡ settings_in ms
settings_first lower fs p b [] = refl
settings_first lower fs p b (m ∷ ms) =
    let one = (alike_after (touched_by_reading fs p) (touched_by_writing fs p) (is_ungoverned lower) (logical_value lower fs p b) m).settings in
    ap (λ (x : SyncManagerSettings). x ∷ settings_in (first_written (lower ++ m ∷ []) fs p b ms)) one
    ∙ ap (λ (xs : List SyncManagerSettings). m.settings ∷ xs) (settings_first (lower ++ m ∷ []) fs p b ms)

alike_first : (lower : List SyncManager) (fs : List FmmuSettings) (p : LogicalSpan) (b : List ℕ) (ms : List SyncManager) (n : ℕ) → Alike (manager_at ms n) (manager_at (first_written lower fs p b ms) n)
alike_first lower fs p b [] n = alike_own no_manager
alike_first lower fs p b (m ∷ ms) zero = alike_after (touched_by_reading fs p) (touched_by_writing fs p) (is_ungoverned lower) (logical_value lower fs p b) m
alike_first lower fs p b (m ∷ ms) (suc n) = alike_first (lower ++ m ∷ []) fs p b ms n

-- a manager that was written first, and is then read, is as if both were at once
both_at_once : (rt wt own their : ℕ → Bool) (v w : ℕ → ℕ → List ℕ) (m : SyncManager) → ((a : ℕ) → their a ≡ own a)
    → manager_after true false rt wt their w (manager_after false true rt wt own v m) ≡ manager_after true true rt wt own v m
both_at_once rt wt own their v w m same = elim (cases_Bool (is_written_by wt own m)) [
  | inl t ↦
      let x : SyncManager = ring_written m (v m.settings.start m.settings.length) in
      let once : manager_after false true rt wt own v m ≡ x = if_true (is_written_by wt own m) x m t in
      let still : may_read x ≡ false = (alike_written m (v m.settings.start m.settings.length) (and_parts (may_write m) _ t).0).reads
      ∙ unread m (one_way m.settings (writable_way m (and_parts (may_write m) _ t).0)) in
      ap (λ (y : SyncManager). manager_after true false rt wt their w y) once
      ∙ (if_false (is_read_by rt their x) (ring_read x) x (and_left (may_read x) _ still)
      ∙ sym (if_true (is_written_by wt own m) x (if is_read_by rt own m then ring_read m else m) t))
  | inr f ↦
      let x : SyncManager = ring_written m (v m.settings.start m.settings.length) in
      let once : manager_after false true rt wt own v m ≡ m = if_false (is_written_by wt own m) x m f in
      let gets : gets_at rt their m ≡ gets_at rt own m = gets_at-alike rt their own m (λ k l. same (m.settings.start + k)) in
      ap (λ (y : SyncManager). manager_after true false rt wt their w y) once
      ∙ (ap (λ (g : Bool). if may_read m && g then ring_read m else m) gets
      ∙ sym (if_false (is_written_by wt own m) x (if is_read_by rt own m then ring_read m else m) f))
]

managers_at_once : (lower others : List SyncManager) (fs : List FmmuSettings) (p : LogicalSpan) (b c : List ℕ) (ms : List SyncManager) → settings_in others ≡ settings_in lower
    → logical_managers others true false fs p c (first_written lower fs p b ms) ≡ logical_managers lower true true fs p b ms
managers_at_once lower others fs p b c [] e = refl
managers_at_once lower others fs p b c (m ∷ ms) e =
    let rt = touched_by_reading fs p in
    let wt = touched_by_writing fs p in
    let x : SyncManager = manager_after false true rt wt (is_ungoverned lower) (logical_value lower fs p b) m in
    let one : manager_after true false rt wt (is_ungoverned others) (logical_value others fs p c) x ≡ manager_after true true rt wt (is_ungoverned lower) (logical_value lower fs p b) m
    = both_at_once rt wt (is_ungoverned lower) (is_ungoverned others) (logical_value lower fs p b) (logical_value others fs p c) m
    (λ a. ap (λ (o : Option ℕ). is_none o) (governor_same lower others a e)) in
    let more : settings_in (others ++ x ∷ []) ≡ settings_in (lower ++ m ∷ [])
    = settings_more others x ∙ (ap (λ (xs : List SyncManagerSettings). xs ++ x.settings ∷ []) e
    ∙ (ap (λ (y : SyncManagerSettings). settings_in lower ++ y ∷ []) (alike_after rt wt (is_ungoverned lower) (logical_value lower fs p b) m).settings
    ∙ sym (settings_more lower m))) in
    ap (λ (y : SyncManager). y ∷ logical_managers (others ++ x ∷ []) true false fs p c (first_written (lower ++ m ∷ []) fs p b ms)) one
    ∙ ap (λ (ys : List SyncManager). manager_after true true rt wt (is_ungoverned lower) (logical_value lower fs p b) m ∷ ys)
    (managers_at_once (lower ++ m ∷ []) (others ++ x ∷ []) fs p b c ms more)

-- ---- the slave

abbrev pub wrote : SlaveState → LogicalSpan → List ℕ → SlaveState
wrote s p b = logical_after s false true p b

same_fmmus : (s : SlaveState) (p : LogicalSpan) (b : List ℕ) → fmmus (wrote s p b) ≡ fmmus s
same_fmmus s p b = sym (decoded-mapped s.kind.hardware s.managers (fmmus s) p b s.memory)

pub slave_at_once : (s : SlaveState) (p : LogicalSpan) (b c : List ℕ) → logical_after (wrote s p b) true false p c ≡ logical_after s true true p b
slave_at_once s p b c =
    let t : SlaveState = wrote s p b in
    let memory : overlay t.memory (λ q. only_if false (plain_bit t.managers (fmmus t) p c q)) ≡ t.memory
    = overlay_own t.memory (λ q. only_if false (plain_bit t.managers (fmmus t) p c q)) (λ i l. refl) in
    let managers : logical_managers [] true false (fmmus t) p c t.managers ≡ logical_managers [] true true (fmmus s) p b s.managers
    = ap (λ (fs : List FmmuSettings). logical_managers [] true false fs p c t.managers) (same_fmmus s p b)
    ∙ managers_at_once [] [] (fmmus s) p b c s.managers refl in
    ap (λ (xs : List ℕ). with_memory t xs (logical_managers [] true false (fmmus t) p c t.managers)) memory
    ∙ ap (λ (ms : List SyncManager). with_memory s t.memory ms) managers

-- ---- what is read

-- what a physical bit shows by the settings of its manager, whether that may be read, and its value
abbrev seen_of : (ℕ → Bool) → ℕ → SyncManagerSettings → Bool → List ℕ → Option Bool
seen_of t q x r v = if nat_lt (q / 8) (x.start + x.length) && ((t x.start && t (x.start + x.length - 1)) && r) then Some (bit v (q - 8 * x.start)) else None

seen_unread : (t : ℕ → Bool) (q : ℕ) (x : SyncManagerSettings) (v : List ℕ) → seen_of t q x false v ≡ None
seen_unread t q x v = if_false _ (Some (bit v (q - 8 * x.start))) None
    (and_right (nat_lt (q / 8) (x.start + x.length)) _ (and_right (t x.start && t (x.start + x.length - 1)) false refl))

seen_alike : (t : ℕ → Bool) (q : ℕ) (m n : SyncManager) → Alike m n → seen_of t q n.settings (may_read n) (visible n) ≡ seen_of t q m.settings (may_read m) (visible m)
seen_alike t q m n h =
    ap (λ (x : SyncManagerSettings). seen_of t q x (may_read n) (visible n)) h.settings
    ∙ (ap (λ (r : Bool). seen_of t q m.settings r (visible n)) h.reads
    ∙ elim (cases_Bool (may_read m)) [
      | inl r ↦ ap (λ (v : List ℕ). seen_of t q m.settings (may_read m) v) (h.shows r)
      | inr f ↦ ap (λ (r : Bool). seen_of t q m.settings r (visible n)) f ∙ (seen_unread t q m.settings (visible n)
          ∙ sym (ap (λ (r : Bool). seen_of t q m.settings r (visible m)) f ∙ seen_unread t q m.settings (visible m)))
    ])

abbrev told : List ℕ → List SyncManager → (ℕ → Bool) → ℕ → Option ℕ → Option Bool
told memory ms t q o = if reads_under ms t (q / 8) o then Some (visible_under memory ms q o) else None

readable_same : (s : SlaveState) (p : LogicalSpan) (b : List ℕ) (q : ℕ) → length s.memory ≡ 0x3000 → q < 8 * ram_end → source (writers (fmmus s)) q ≡ None
    → readable_bit (wrote s p b).memory (wrote s p b).managers (fmmus s) p q ≡ readable_bit s.memory s.managers (fmmus s) p q
readable_same s p b q room inside none =
    let fs = fmmus s in
    let t = touched_by_reading fs p in
    let x : SlaveState = wrote s p b in
    let gov : governor x.managers (q / 8) ≡ governor s.managers (q / 8) = governor_same s.managers x.managers (q / 8) (settings_first [] fs p b s.managers) in
    ap (λ (o : Option ℕ). told x.memory x.managers t q o) gov
    ∙ elim (none_or_some (governor s.managers (q / 8))) [
      | inl free ↦
          let plain : plain_bit s.managers fs p b q ≡ None = if_none (is_ungoverned s.managers (q / 8)) _ (ap (λ (o : Option ℕ). option_map (bit b) (inside_span p o)) none) in
          let kept : bit x.memory q ≡ bit s.memory q
          = bit-overlay s.memory (plain_bit s.managers fs p b) q (omega (arith, room, inside)) ∙ ap (λ (o : Option Bool). unwrap_or o (bit s.memory q)) plain in
          ap (λ (o : Option ℕ). told x.memory x.managers t q o) free
          ∙ (ap (λ (y : Bool). Some y) kept ∙ sym (ap (λ (o : Option ℕ). told s.memory s.managers t q o) free))
      | inr own ↦
          ap (λ (o : Option ℕ). told x.memory x.managers t q o) own.1
          ∙ (seen_alike t q (manager_at s.managers own.0) (manager_at x.managers own.0) (alike_first [] fs p b s.managers own.0)
          ∙ sym (ap (λ (o : Option ℕ). told s.memory s.managers t q o) own.1))
    ]

read_same : (s : SlaveState) (p : LogicalSpan) (b : List ℕ) (i : ℕ) → MayWriteFirst s
    → read_bit (wrote s p b).memory (wrote s p b).managers (fmmus (wrote s p b)) p i ≡ read_bit s.memory s.managers (fmmus s) p i
read_same s p b i h =
    let fs = fmmus s in
    let x : SlaveState = wrote s p b in
    ap (λ (gs : List FmmuSettings). read_bit x.memory x.managers gs p i) (same_fmmus s p b)
    ∙ elim (none_or_some (target (readers fs) (p.from + i))) [
      | inl none ↦ ap (option_and_then (readable_bit x.memory x.managers fs p)) none ∙ sym (ap (option_and_then (readable_bit s.memory s.managers fs p)) none)
      | inr some ↦
          let pair = reading_pair fs (p.from + i) some.0 some.1 in
          let inside : some.0 < 8 * ram_end = pair.3.to_ram in
          ap (option_and_then (readable_bit x.memory x.managers fs p)) some.1
          ∙ (readable_same s p b some.0 h.room inside (h.apart (p.from + i) some.0 some.1)
          ∙ sym (ap (option_and_then (readable_bit s.memory s.managers fs p)) some.1))
    ]

pub data_at_once : (s : SlaveState) (p : LogicalSpan) (b : List ℕ) → MayWriteFirst s
    → overlay b (read_bit (wrote s p b).memory (wrote s p b).managers (fmmus (wrote s p b)) p) ≡ overlay b (read_bit s.memory s.managers (fmmus s) p)
data_at_once s p b h = overlay_alike b _ _ (λ i l. ap (λ (o : Option Bool). unwrap_or o (bit b i)) (read_same s p b i h))

pub some_at_once : (s : SlaveState) (p : LogicalSpan) (b : List ℕ) → MayWriteFirst s
    → some_read (wrote s p b).memory (wrote s p b).managers (fmmus (wrote s p b)) p ≡ some_read s.memory s.managers (fmmus s) p
some_at_once s p b h = any_below-alike p.bits _ _ (λ i l. ap is_some (read_same s p b i h))
