-- A bit is written exactly where one is in the memory itself or in some manager's value.
use Rattle.std.proofs.Common.{ℕ, zero, suc, ◌+◌, ◌-◌, ◌*◌, ◌/◌, ◌%◌, ◌<◌, ◌≤◌, ◌≡◌, ◌==◌, ◌&&◌, ◌||◌, Bool, true, false, Option, Some, None, refl, sym, ◌∙◌, ap, subst, inl, inr, ◌⊎◌, arith, if◌then◌else◌, is_some, is_none, List, [], ◌∷◌, ◌++◌, length, take, nat_lt, nat_le, append_assoc}
use Rattle.std.proofs.lemmas.Bool.{cases_Bool, and_parts, and_from, or_left, or_right, both_ways, lt-ltb, ltb-true, leb-true, false≢true}
use Rattle.std.proofs.lemmas.List.{append-nil}
use Rattle.ec_bits.proofs.AnyLaws.{any_below_from, any_below_some, if_true, if_false}
use Rattle.ec_regs.specs.declared.fmmu.FmmuSettings.{FmmuSettings}
use Rattle.ec_regs.specs.declared.manager.SyncManagerSettings.{SyncManagerSettings}
use Rattle.ec_regs.specs.Memory.{ram_start, ram_end}
use Rattle.ec_regs.specs.Managers.{is_set, is_mailbox, is_buffered, is_master_written, is_master_read, span}
use Rattle.ec_sync.specs.SyncManager.{SyncManager, may_write}
use Rattle.ec_sync.specs.Governing.{governor, governs, covers, in_first_buffer}
use Rattle.ec_fmmu.specs.Applied.{LogicalSpan, touched_by_writing}
use Rattle.ec_fmmu.proofs.PairLaws.{none_or_some}
use Rattle.ec_slave.specs.State.{manager_at}
use Rattle.ec_slave.specs.Managers.{writes_under}
use Rattle.ec_slave.specs.Logical.{brought, written_bit, plain_bit, some_written}
use Rattle.ec_slave.specs.Written.{some_brought, some_manager_written, some_plain_written}
use Rattle.ec_slave.proofs.Memory.Governor.{governor-take, position_from-first}
use Rattle.ec_slave.proofs.Memory.AgainstAll.{governs-value, writable-set}
use Rattle.ec_slave.proofs.LogicalAccess.ReadViews.{governor-start, governor-below}

pub same_truth : (a b : Bool) → (a ≡ true → b ≡ true) → (b ≡ true → a ≡ true) → a ≡ b
same_truth a b f g = elim (cases_Bool a) [
  | inl t ↦ t ∙ sym (f t)
  | inr h ↦ elim (cases_Bool b) as (λ _. a ≡ b) [
    | inl t ↦ absurd (both_ways a h (g t))
    | inr k ↦ h ∙ sym k
  ]
]

-- what some_manager_written says of one manager
abbrev IsWrittenAt : List SyncManager → List FmmuSettings → LogicalSpan → List ℕ → SyncManager → Type 0
IsWrittenAt lower fs p bytes m = (covers (touched_by_writing fs p) m ≡ true) × (may_write m ≡ true) × (some_brought lower fs p bytes m.settings.start m.settings.length ≡ true)

written-there : (lower ms : List SyncManager) (fs : List FmmuSettings) (p : LogicalSpan) (bytes : List ℕ) (n : ℕ) → n < length ms
    → IsWrittenAt (lower ++ take n ms) fs p bytes (manager_at ms n) → some_manager_written lower fs p bytes ms ≡ true
written-there lower [] fs p bytes n l h = absurd (omega arith)
written-there lower (m ∷ ms) fs p bytes zero l h =
    let b : some_brought lower fs p bytes m.settings.start m.settings.length ≡ true
    = ap (λ xs. some_brought xs fs p bytes m.settings.start m.settings.length) (sym (append-nil lower)) ∙ h.2 in
    or_left _ _ (and_from _ _ h.0 (and_from _ _ h.1 b))
written-there lower (m ∷ ms) fs p bytes (suc n) l h =
    let b : some_brought ((lower ++ m ∷ []) ++ take n ms) fs p bytes (manager_at ms n).settings.start (manager_at ms n).settings.length ≡ true
    = ap (λ xs. some_brought xs fs p bytes (manager_at ms n).settings.start (manager_at ms n).settings.length) (append_assoc lower (m ∷ []) (take n ms)) ∙ h.2 in
    or_right _ _ (written-there (lower ++ m ∷ []) ms fs p bytes n (omega arith) (h.0, h.1, b))

abbrev WrittenSomewhere : List SyncManager → List FmmuSettings → LogicalSpan → List ℕ → List SyncManager → Type 0
WrittenSomewhere lower fs p bytes ms = (n : ℕ) × (n < length ms) × IsWrittenAt (lower ++ take n ms) fs p bytes (manager_at ms n)

pub or-cases : (a b : Bool) → (a || b) ≡ true → (a ≡ true) ⊎ (b ≡ true)
or-cases true b e = inl refl
or-cases false b e = inr e

where-written : (lower ms : List SyncManager) (fs : List FmmuSettings) (p : LogicalSpan) (bytes : List ℕ) → some_manager_written lower fs p bytes ms ≡ true → WrittenSomewhere lower fs p bytes ms
where-written lower [] fs p bytes e = absurd (false≢true e)
where-written lower (m ∷ ms) fs p bytes e = elim (or-cases _ _ e) [
  | inl t ↦
      let a = and_parts (covers (touched_by_writing fs p) m) _ t in
      let b = and_parts (may_write m) _ a.1 in
      let s : some_brought (lower ++ []) fs p bytes m.settings.start m.settings.length ≡ true
      = ap (λ xs. some_brought xs fs p bytes m.settings.start m.settings.length) (append-nil lower) ∙ b.1 in
      (0, omega arith, (a.0, b.0, s))
  | inr t ↦
      let r = where-written (lower ++ m ∷ []) ms fs p bytes t in
      let s : some_brought (lower ++ m ∷ take r.0 ms) fs p bytes (manager_at ms r.0).settings.start (manager_at ms r.0).settings.length ≡ true
      = ap (λ xs. some_brought xs fs p bytes (manager_at ms r.0).settings.start (manager_at ms r.0).settings.length) (sym (append_assoc lower (m ∷ []) (take r.0 ms))) ∙ r.2.2 in
      (suc r.0, omega (arith, r.1), (r.2.0, r.2.1, s))
]

-- a set manager's value lies in the RAM
value-end : (m : SyncManagerSettings) → is_set m ≡ true → m.start + m.length ≤ ram_end
unfolding is_set
value-end m h =
    let a = (and_parts (m.activate % 2 == 1) _ h).1 in
    let b = (and_parts (is_mailbox m || is_buffered m) _ a).1 in
    let c = (and_parts (is_master_written m || is_master_read m) _ b).1 in
    let d = (and_parts (nat_lt 0 m.length) _ c).1 in
    let e = leb-true (m.start + span m) ram_end (and_parts (nat_le ram_start m.start) _ d).1 in
    elim (cases_Bool (is_mailbox m)) [
      | inl t ↦ let s : span m ≡ m.length = if_true _ _ _ t in omega arith
      | inr f ↦ let s : span m ≡ 3 * m.length = if_false _ _ _ f in omega arith
    ]

pub if-some : {X : Type 0} (b : Bool) (o : Option X) → is_some (if b then o else None) ≡ true → (b ≡ true) × (is_some o ≡ true)
if-some true o e = (refl, e)
if-some false o e = absurd (false≢true e)

-- a written bit is plain, or in a manager's value
written-somewhere : (ms : List SyncManager) (fs : List FmmuSettings) (p : LogicalSpan) (bytes : List ℕ) (q : ℕ) → q < 8 * ram_end → is_some (written_bit ms fs p bytes q) ≡ true
    → (some_plain_written ms fs p bytes || some_manager_written [] fs p bytes ms) ≡ true
written-somewhere ms fs p bytes q l e =
    let parts = if-some _ (brought fs p bytes q) e in
    elim (none_or_some (governor ms (q / 8))) [
      | inl none ↦
          let plain : is_some (plain_bit ms fs p bytes q) ≡ true = ap is_some (if_true _ _ _ (ap is_none none)) ∙ parts.1 in
          or_left _ _ (any_below_from (8 * ram_end) (λ i. is_some (plain_bit ms fs p bytes i)) q l plain)
      | inr some ↦
          let n : ℕ = some.0 in
          let m : SyncManager = manager_at ms n in
          let g : governor ms (q / 8) ≡ Some n = some.1 in
          let may : (in_first_buffer m (q / 8) && (covers (touched_by_writing fs p) m && may_write m)) ≡ true
          = ap (writes_under ms (touched_by_writing fs p) (q / 8)) (sym g) ∙ parts.0 in
          let a = and_parts (in_first_buffer m (q / 8)) _ may in
          let b = and_parts (covers (touched_by_writing fs p) m) _ a.1 in
          let front : q / 8 < m.settings.start + m.settings.length = ltb-true _ _ a.0 in
          let from : m.settings.start ≤ q / 8 = governor-start ms (q / 8) n g in
          let k : ℕ = q - 8 * m.settings.start in
          let at : 8 * m.settings.start + k ≡ q = omega arith in
          let here : is_some (plain_bit (take n ms) fs p bytes q) ≡ true
          = ap is_some (if_true _ _ _ (ap is_none (governor-take ms n (q / 8) g))) ∙ parts.1 in
          let there : is_some (plain_bit (take n ms) fs p bytes (8 * m.settings.start + k)) ≡ true
          = ap (λ i. is_some (plain_bit (take n ms) fs p bytes i)) at ∙ here in
          or_right _ _ (written-there [] ms fs p bytes n (governor-below ms (q / 8) n g)
          (b.0, b.1, any_below_from (8 * m.settings.length) (λ i. is_some (plain_bit (take n ms) fs p bytes (8 * m.settings.start + i))) k (omega arith) there))
    ]

plain-written : (ms : List SyncManager) (fs : List FmmuSettings) (p : LogicalSpan) (bytes : List ℕ) → some_plain_written ms fs p bytes ≡ true → some_written ms fs p bytes ≡ true
plain-written ms fs p bytes e =
    let r = any_below_some (8 * ram_end) (λ i. is_some (plain_bit ms fs p bytes i)) e in
    let q : ℕ = r.0 in
    let parts = if-some (is_none (governor ms (q / 8))) (brought fs p bytes q) r.2 in
    elim (none_or_some (governor ms (q / 8))) [
      | inl none ↦
          let w : is_some (written_bit ms fs p bytes q) ≡ true = ap is_some (if_true _ _ _ (ap (writes_under ms (touched_by_writing fs p) (q / 8)) none)) ∙ parts.1 in
          any_below_from (8 * ram_end) (λ i. is_some (written_bit ms fs p bytes i)) q r.1 w
      | inr some ↦ absurd (false≢true (sym (ap is_none some.1) ∙ parts.0))
    ]

manager-written : (ms : List SyncManager) (fs : List FmmuSettings) (p : LogicalSpan) (bytes : List ℕ) → some_manager_written [] fs p bytes ms ≡ true → some_written ms fs p bytes ≡ true
manager-written ms fs p bytes e =
    let w = where-written [] ms fs p bytes e in
    let n : ℕ = w.0 in
    let m : SyncManager = manager_at ms n in
    let at = w.2 in
    let r = any_below_some (8 * m.settings.length) (λ i. is_some (plain_bit (take n ms) fs p bytes (8 * m.settings.start + i))) at.2 in
    let k : ℕ = r.0 in
    let q : ℕ = 8 * m.settings.start + k in
    let inside : k < 8 * m.settings.length = r.1 in
    let parts = if-some (is_none (governor (take n ms) (q / 8))) (brought fs p bytes q) r.2 in
    let byte : m.settings.start + k / 8 ≡ q / 8 = omega arith in
    let spans : governs m (q / 8) ≡ true = subst (λ (a : ℕ). governs m a ≡ true) byte (governs-value m (k / 8) (writable-set m at.1) (omega arith)) in
    let low : governor (take n ms) (q / 8) ≡ None = elim (none_or_some (governor (take n ms) (q / 8))) [
      | inl none ↦ none
      | inr some ↦ absurd (false≢true (sym (ap is_none some.1) ∙ parts.0))
    ] in
    let z : 0 + n ≡ n = omega arith in
    let g : governor ms (q / 8) ≡ Some n = position_from-first (λ (x : SyncManager). governs x (q / 8)) 0 n ms w.1 low spans ∙ ap (λ i. Some i) z in
    let end : m.settings.start + m.settings.length ≤ ram_end = value-end m.settings (writable-set m at.1) in
    let front : in_first_buffer m (q / 8) ≡ true = lt-ltb _ _ (omega arith) in
    let may : writes_under ms (touched_by_writing fs p) (q / 8) (governor ms (q / 8)) ≡ true
    = ap (writes_under ms (touched_by_writing fs p) (q / 8)) g ∙ and_from _ _ front (and_from _ _ at.0 at.1) in
    any_below_from (8 * ram_end) (λ i. is_some (written_bit ms fs p bytes i)) q (omega arith) (ap is_some (if_true _ _ _ may) ∙ parts.1)

pub some_written-is : (ms : List SyncManager) (fs : List FmmuSettings) (p : LogicalSpan) (bytes : List ℕ)
    → some_written ms fs p bytes ≡ (some_plain_written ms fs p bytes || some_manager_written [] fs p bytes ms)
some_written-is ms fs p bytes = same_truth _ _
    (λ e. let r = any_below_some (8 * ram_end) (λ i. is_some (written_bit ms fs p bytes i)) e in written-somewhere ms fs p bytes r.0 r.1 r.2)
    (λ e. elim (or-cases _ _ e) [ inl t ↦ plain-written ms fs p bytes t | inr t ↦ manager-written ms fs p bytes t ])
