-- A logical datagram whose bits no FMMU maps leaves the slave as it was, and goes on as it came.
use Rattle.std.proofs.Common.{ℕ, ◌+◌, ◌*◌, ◌%◌, ◌<◌, ◌≡◌, ◌&&◌, Bool, false, None, refl, ◌∙◌, ap, arith, is_some, List, [], ◌∷◌, ◌++◌, sym, option_map, option_and_then, unwrap_or, mod-eq_of_lt}
use Rattle.std.specs.Int.{from_bool}
use Rattle.std.proofs.lemmas.Bool.{and_left, and_right}
use Rattle.ec_bits.specs.Bits.{bit, overlay}
use Rattle.ec_bits.proofs.BitLaws.{overlay_own}
use Rattle.ec_bits.proofs.AnyLaws.{any_below_none, if_none, if_false}
use Rattle.ec_regs.specs.declared.fmmu.FmmuSettings.{FmmuSettings}
use Rattle.ec_regs.specs.Memory.{ram_end}
use Rattle.ec_sync.specs.SyncManager.{SyncManager, may_read, may_write}
use Rattle.ec_fmmu.specs.Applied.{LogicalSpan, leads_into, touched_by_reading, touched_by_writing}
use Rattle.ec_slave.specs.State.{SlaveState, fmmus, with_memory}
use Rattle.ec_slave.specs.Managers.{is_ungoverned, manager_after}
use Rattle.ec_slave.specs.Logical.{span_of, read_bit, readable_bit, written_bit, plain_bit, brought, logical_value, logical_managers, only_if, some_read, some_written, logical_after, meets_logically}
use Rattle.ec_slave.specs.LogicalLaws.{Misses, MissesLaw}
use Rattle.ec_slave.specs.Mapped.{weight}

no_read_bit : (s : SlaveState) (p : LogicalSpan) (i : ℕ) → Misses s p → i < p.bits → read_bit s.memory s.managers (fmmus s) p i ≡ None
no_read_bit s p i h l = ap (option_and_then (readable_bit s.memory s.managers (fmmus s) p)) (h.reads i l)

nothing_brought : (s : SlaveState) (p : LogicalSpan) (bytes : List ℕ) (q : ℕ) → Misses s p → brought (fmmus s) p bytes q ≡ None
nothing_brought s p bytes q h = ap (option_map (bit bytes)) (h.writes q)

no_plain_bit : (s : SlaveState) (p : LogicalSpan) (bytes : List ℕ) (q : ℕ) → Misses s p → plain_bit s.managers (fmmus s) p bytes q ≡ None
no_plain_bit s p bytes q h = if_none _ _ (nothing_brought s p bytes q h)

no_written_bit : (s : SlaveState) (p : LogicalSpan) (bytes : List ℕ) (q : ℕ) → Misses s p → written_bit s.managers (fmmus s) p bytes q ≡ None
no_written_bit s p bytes q h = if_none _ _ (nothing_brought s p bytes q h)

no_touch_writing : (s : SlaveState) (p : LogicalSpan) (a : ℕ) → Misses s p → touched_by_writing (fmmus s) p a ≡ false
no_touch_writing s p a h = any_below_none 8 _ (λ j l. ap is_some (h.writes (8 * a + j)))

no_touch_reading : (s : SlaveState) (p : LogicalSpan) (a : ℕ) → Misses s p → touched_by_reading (fmmus s) p a ≡ false
no_touch_reading s p a h = any_below_none p.bits _ (λ i l. ap (λ o. leads_into o a) (h.reads i l))

manager_kept : (s : SlaveState) (reading writing : Bool) (p : LogicalSpan) (own : ℕ → Bool) (value : ℕ → ℕ → List ℕ) (m : SyncManager) → Misses s p
    → manager_after reading writing (touched_by_reading (fmmus s) p) (touched_by_writing (fmmus s) p) own value m ≡ m
manager_kept s reading writing p own value m h =
    if_false _ _ _ (and_right writing _ (and_right (may_write m) _ (and_left _ _ (and_left _ _ (no_touch_writing s p m.settings.start h)))))
    ∙ if_false _ _ _ (and_right reading _ (and_right (may_read m) _ (and_left _ _ (and_left _ _ (no_touch_reading s p m.settings.start h)))))

managers_kept : (s : SlaveState) (lower ms : List SyncManager) (reading writing : Bool) (p : LogicalSpan) (bytes : List ℕ) → Misses s p
    → logical_managers lower reading writing (fmmus s) p bytes ms ≡ ms
managers_kept s lower [] reading writing p bytes h = refl
managers_kept s lower (m ∷ ms) reading writing p bytes h =
    ap (λ x. x ∷ logical_managers (lower ++ m ∷ []) reading writing (fmmus s) p bytes ms) (manager_kept s reading writing p (is_ungoverned lower) (logical_value lower (fmmus s) p bytes) m h)
    ∙ ap (λ xs. m ∷ xs) (managers_kept s (lower ++ m ∷ []) ms reading writing p bytes h)

pub misses : MissesLaw
unfolding meets_logically
misses reading writing weight s d h c =
    let p = span_of d in
    let memory = overlay_own s.memory (λ q. only_if writing (plain_bit s.managers (fmmus s) p d.data_bytes q))
    (λ q l. ap (λ o. unwrap_or o (bit s.memory q)) (if_none writing _ (no_plain_bit s p d.data_bytes q h))) in
    let managers = managers_kept s [] s.managers reading writing p d.data_bytes h in
    let bytes = overlay_own d.data_bytes (λ i. only_if reading (read_bit s.memory s.managers (fmmus s) p i))
    (λ i l. ap (λ o. unwrap_or o (bit d.data_bytes i)) (if_none reading _ (no_read_bit s p i h l))) in
    let r : (reading && some_read s.memory s.managers (fmmus s) p) ≡ false = and_right reading _ (any_below_none p.bits _ (λ i l. ap is_some (no_read_bit s p i h l))) in
    let w : (writing && some_written s.managers (fmmus s) p d.data_bytes) ≡ false = and_right writing _ (any_below_none (8 * ram_end) _ (λ q l. ap is_some (no_written_bit s p d.data_bytes q h))) in
    let n : (d.counter + (from_bool (reading && some_read s.memory s.managers (fmmus s) p) + weight * from_bool (writing && some_written s.managers (fmmus s) p d.data_bytes))) % 65536 ≡ d.counter
    = rw (r, w) (let z : d.counter + (0 + weight * 0) ≡ d.counter = omega arith in rw z (mod-eq_of_lt c)) in
    rw (memory, managers, bytes, n) refl

-- ---- a role that neither reads nor writes

managers_left : (lower ms : List SyncManager) (fs : List FmmuSettings) (p : LogicalSpan) (bytes : List ℕ) → ms ≡ logical_managers lower false false fs p bytes ms
managers_left lower [] fs p bytes = refl
managers_left lower (m ∷ ms) fs p bytes = ap (λ (xs : List SyncManager). m ∷ xs) (managers_left (lower ++ m ∷ []) ms fs p bytes)

pub slave_left : (s : SlaveState) (p : LogicalSpan) (bytes : List ℕ) → s ≡ logical_after s false false p bytes
slave_left s p bytes =
    let memory = overlay_own s.memory (λ q. only_if false (plain_bit s.managers (fmmus s) p bytes q)) (λ q l. refl) in
    ap (λ (xs : List ℕ). with_memory s xs s.managers) (sym memory)
    ∙ ap (λ (ms : List SyncManager). with_memory s (overlay s.memory (λ q. only_if false (plain_bit s.managers (fmmus s) p bytes q))) ms) (managers_left [] s.managers (fmmus s) p bytes)
