-- What the data of a logical datagram does to a slave whose FMMUs map an area of the RAM itself, which no manager governs.
use Rattle.std.proofs.Common.{ℕ, zero, suc, ◌+◌, ◌-◌, ◌*◌, ◌/◌, ◌<◌, ◌≤◌, ◌≡◌, ◌&&◌, ◌==◌, Bool, true, false, Option, Some, None, is_some, is_none, option_and_then, option_map, unwrap_or, if◌then◌else◌, nat_lt, List, [], ◌∷◌, length, take, ext_get_or, refl, sym, ◌∙◌, ap, subst, arith, inl, inr}
use Rattle.std.specs.Int.{from_bool}
use Rattle.std.specs.List.{position_from}
use Rattle.std.proofs.lemmas.Bool.{and_left, and_right, both_ways, cases_Bool, cases_lt, eqb-true, false_from_ne_true, lt-ltb, le-ltb}
use Rattle.ec_bits.specs.Bits.{any_below, bit, copied, overlay, run_updates, within}
use Rattle.ec_bits.proofs.AnyLaws.{any_below-alike, any_below_from, any_below_none, any_below_some, if_none, if_true, if_false, within_true, within_above, within_below, within_parts}
use Rattle.ec_bits.proofs.BitLaws.{bit-overlay, overlay_alike, overlay_own}
use Rattle.ec_regs.specs.Managers.{is_set}
use Rattle.ec_regs.specs.Memory.{ram_end}
use Rattle.ec_sync.specs.SyncManager.{SyncManager, may_read, may_write, no_manager}
use Rattle.ec_sync.specs.Governing.{governor, governs}
use Rattle.ec_fmmu.specs.Applied.{LogicalSpan, data_bit_for, inside_span, leads_into, touched_by_reading, touched_by_writing}
use Rattle.ec_fmmu.specs.Areas.{Area, Spans}
use Rattle.ec_fmmu.specs.Sets.{source, target, readers, writers}
use Rattle.ec_slave.specs.State.{SlaveState, fmmus, manager_at, with_memory}
use Rattle.ec_slave.specs.Managers.{is_read_by, is_ungoverned, is_written_by, reads_under, visible_under, writes_under}
use Rattle.ec_slave.specs.Logical.{brought, logical_managers, logical_met, only_if, plain_bit, read_bit, readable_bit, some_read, some_written, written_bit}
use Rattle.ec_slave.specs.Usual.{IsPlain, LiesFree}
use Rattle.ec_slave.proofs.Memory.AgainstAll.{governs-value, readable-set, writable-set}
use Rattle.ec_sync.proofs.Lengths.{set_lies_in_ram}
use Rattle.ec_slave.proofs.Memory.Governor.{length-logical_managers, manager_at-exchanged}
use Rattle.ec_slave.proofs.LogicalAccess.SlaveExchanged.{within_moved}

-- ---- bytes of the area

-- the byte of one of its bits is its own
byte_free : (ms : List SyncManager) (start bits q : ℕ) → LiesFree ms start bits → within (8 * start) bits q ≡ true → governor ms (q / 8) ≡ None
byte_free ms start bits q h w =
    let b = within_parts (8 * start) bits q w in
    let at : q / 8 ≡ start + (q / 8 - start) = let x = b.0 in omega (arith, x) in
    ap (governor ms) at ∙ h.free (q / 8 - start) (let x = b.0 in let y = b.1 in omega (arith, x, y))

-- the data bit that is brought to a physical bit
brought_to : (s : SlaveState) (a : Area) (p : LogicalSpan) (bytes : List ℕ) (q : ℕ) → IsPlain s a → Spans p a → within (8 * a.out_start) a.outs q ≡ true
    → brought (fmmus s) p bytes q ≡ Some (bit bytes (a.out_at - p.from + (q - 8 * a.out_start)))
brought_to s a p bytes q h c w =
    let b = within_parts (8 * a.out_start) a.outs q w in
    let logical : ℕ = a.out_at + (q - 8 * a.out_start) in
    let e : source (writers (fmmus s)) q ≡ Some logical = h.writes q ∙ if_true _ _ _ w in
    let inside : within p.from p.bits logical ≡ true
    = within_true p.from p.bits logical (let x = c.out_from in omega (arith, x)) (let x = c.out_to in let y = b.0 in let z = b.1 in omega (arith, x, y, z)) in
    let at : logical - p.from ≡ a.out_at - p.from + (q - 8 * a.out_start) = let x = c.out_from in omega (arith, x) in
    ap (option_map (bit bytes)) (ap (inside_span p) e ∙ if_true _ _ _ inside) ∙ ap (λ (i : ℕ). Some (bit bytes i)) at

brought_none : (s : SlaveState) (a : Area) (p : LogicalSpan) (bytes : List ℕ) (q : ℕ) → IsPlain s a → within (8 * a.out_start) a.outs q ≡ false → brought (fmmus s) p bytes q ≡ None
brought_none s a p bytes q h w = ap (option_map (bit bytes)) (ap (inside_span p) (h.writes q ∙ if_false _ _ _ w))

-- what a physical bit becomes is what a copy says
pub plain_told : (s : SlaveState) (a : Area) (p : LogicalSpan) (bytes : List ℕ) (q : ℕ) → IsPlain s a → Spans p a
    → plain_bit s.managers (fmmus s) p bytes q ≡ run_updates (8 * a.out_start) bytes (a.out_at - p.from) a.outs q
plain_told s a p bytes q h c = elim (cases_Bool (within (8 * a.out_start) a.outs q)) [
  | inl w ↦
      let free : is_ungoverned s.managers (q / 8) ≡ true = ap is_none (byte_free s.managers a.out_start a.outs q h.outs_free w) in
      if_true _ _ _ free ∙ (brought_to s a p bytes q h c w ∙ sym (if_true _ _ _ w))
  | inr w ↦ if_none _ _ (brought_none s a p bytes q h w) ∙ sym (if_false _ _ _ w)
]

written_told : (s : SlaveState) (a : Area) (p : LogicalSpan) (bytes : List ℕ) (q : ℕ) → IsPlain s a → Spans p a
    → written_bit s.managers (fmmus s) p bytes q ≡ run_updates (8 * a.out_start) bytes (a.out_at - p.from) a.outs q
written_told s a p bytes q h c = elim (cases_Bool (within (8 * a.out_start) a.outs q)) [
  | inl w ↦
      ap (λ (o : Option ℕ). if writes_under s.managers (touched_by_writing (fmmus s) p) (q / 8) o then brought (fmmus s) p bytes q else None)
      (byte_free s.managers a.out_start a.outs q h.outs_free w)
      ∙ (brought_to s a p bytes q h c w ∙ sym (if_true _ _ _ w))
  | inr w ↦ if_none _ _ (brought_none s a p bytes q h w) ∙ sym (if_false _ _ _ w)
]

-- what a data bit becomes
read_told_as : (s : SlaveState) (a : Area) (p : LogicalSpan) (i : ℕ) → IsPlain s a → Spans p a
    → read_bit s.memory s.managers (fmmus s) p i ≡ run_updates (a.in_at - p.from) s.memory (8 * a.in_start) a.ins i
read_told_as s a p i h c = elim (cases_Bool (within a.in_at a.ins (p.from + i))) [
  | inl w ↦
      let b = within_parts a.in_at a.ins (p.from + i) w in
      let q : ℕ = 8 * a.in_start + (p.from + i - a.in_at) in
      let inside : within (8 * a.in_start) a.ins q ≡ true = within_true (8 * a.in_start) a.ins q (omega arith) (let x = b.0 in let y = b.1 in omega (arith, x, y)) in
      let moved : within (a.in_at - p.from) a.ins i ≡ true = sym (within_moved a.in_at a.ins p.from i c.in_from) ∙ w in
      let at : q ≡ 8 * a.in_start + (i - (a.in_at - p.from)) = let x = b.0 in let y = c.in_from in omega (arith, x, y) in
      ap (option_and_then (readable_bit s.memory s.managers (fmmus s) p)) (h.reads (p.from + i) ∙ if_true _ _ _ w)
      ∙ (ap (λ (o : Option ℕ). if reads_under s.managers (touched_by_reading (fmmus s) p) (q / 8) o then Some (visible_under s.memory s.managers q o) else None)
      (byte_free s.managers a.in_start a.ins q h.ins_free inside)
      ∙ (ap (λ (k : ℕ). Some (bit s.memory k)) at ∙ sym (if_true _ _ _ moved)))
  | inr w ↦
      let moved : within (a.in_at - p.from) a.ins i ≡ false = sym (within_moved a.in_at a.ins p.from i c.in_from) ∙ w in
      ap (option_and_then (readable_bit s.memory s.managers (fmmus s) p)) (h.reads (p.from + i) ∙ if_false _ _ _ w) ∙ sym (if_false _ _ _ moved)
]

-- ---- what is counted

none_within : (from i : ℕ) → within from 0 i ≡ false
none_within from i = elim (cases_lt i from) [ inl l ↦ within_below from 0 i l | inr l ↦ within_above from 0 i (omega (arith, l)) ]

-- a copy of some bits overwrites one, and a copy of none overwrites none
any_told : (size to at n : ℕ) (src : List ℕ) → to + n ≤ size → any_below size (λ i. is_some (run_updates to src at n i)) ≡ nat_lt 0 n
any_told size to at n src inside = elim (cases_lt 0 n) [
  | inl l ↦
      any_below_from size (λ i. is_some (run_updates to src at n i)) to (omega (arith, inside, l)) (ap is_some (if_true _ _ _ (within_true to n to (omega arith) (omega (arith, l)))))
      ∙ sym (lt-ltb 0 n l)
  | inr l ↦
      let z : n ≡ 0 = omega (arith, l) in
      any_below_none size (λ i. is_some (run_updates to src at n i)) (λ i k. ap is_some (if_false _ _ _ (ap (λ (m : ℕ). within to m i) z ∙ none_within to i)))
      ∙ sym (le-ltb 0 n l)
]

some_read_plain : (s : SlaveState) (a : Area) (p : LogicalSpan) → IsPlain s a → Spans p a → some_read s.memory s.managers (fmmus s) p ≡ nat_lt 0 a.ins
some_read_plain s a p h c =
    any_below-alike p.bits _ _ (λ i l. ap is_some (read_told_as s a p i h c))
    ∙ any_told p.bits (a.in_at - p.from) (8 * a.in_start) a.ins s.memory (let x = c.in_from in let y = c.in_to in omega (arith, x, y))

some_written_plain : (s : SlaveState) (a : Area) (p : LogicalSpan) (bytes : List ℕ) → IsPlain s a → Spans p a → some_written s.managers (fmmus s) p bytes ≡ nat_lt 0 a.outs
some_written_plain s a p bytes h c = elim (cases_lt 0 a.outs) [
  | inl l ↦
      any_below-alike (8 * ram_end) _ _ (λ q k. ap is_some (written_told s a p bytes q h c))
      ∙ any_told (8 * ram_end) (8 * a.out_start) (a.out_at - p.from) a.outs bytes (let x = h.outs_free.to_ram in omega (arith, x, l))
  | inr l ↦
      let z : a.outs ≡ 0 = omega (arith, l) in
      any_below_none (8 * ram_end) _ (λ q k. ap is_some (written_told s a p bytes q h c
      ∙ if_false _ _ _ (ap (λ (m : ℕ). within (8 * a.out_start) m q) z ∙ none_within (8 * a.out_start) q)))
      ∙ sym (le-ltb 0 a.outs l)
]

-- ---- no manager is met

-- no manager has a byte in its span that has no governor
none_tests : (t : SyncManager → Bool) (k n : ℕ) (ms : List SyncManager) → position_from t k ms ≡ None → n < length ms → t (manager_at ms n) ≡ false
none_tests t k n [] e l = absurd (omega arith)
none_tests t k zero (m ∷ ms) e l = elim (cases_Bool (t m)) [
  | inl y ↦ absurd (let f : Some k ≡ None = sym (if_true (t m) (Some k) (position_from t (k + 1) ms) y) ∙ e in cc)
  | inr y ↦ y
]
none_tests t k (suc n) (m ∷ ms) e l = elim (cases_Bool (t m)) [
  | inl y ↦ absurd (let f : Some k ≡ None = sym (if_true (t m) (Some k) (position_from t (k + 1) ms) y) ∙ e in cc)
  | inr y ↦ none_tests t (k + 1) n ms (sym (if_false (t m) (Some k) (position_from t (k + 1) ms) y) ∙ e) (omega (arith, l))
]

-- where all that is touched has no governor, no manager's first byte is touched
untouched : (ms : List SyncManager) (touched : ℕ → Bool) (n : ℕ) → n < length ms → is_set (manager_at ms n).settings ≡ true
    → ((b : ℕ) → touched b ≡ true → governor ms b ≡ None) → touched (manager_at ms n).settings.start ≡ false
untouched ms touched n l set free =
    let m : SyncManager = manager_at ms n in
    false_from_ne_true (touched m.settings.start) (λ y.
    let at : m.settings.start + 0 ≡ m.settings.start = omega arith in
    let first : governs m m.settings.start ≡ true = subst (λ (b : ℕ). governs m b ≡ true) at (governs-value m 0 set (let x = (set_lies_in_ram m.settings set).some in omega (arith, x))) in
    both_ways (governs m m.settings.start) (none_tests (λ (x : SyncManager). governs x m.settings.start) 0 n ms (free m.settings.start y) l) first)

touched_in_free : (s : SlaveState) (a : Area) (p : LogicalSpan) (b : ℕ) → IsPlain s a → touched_by_reading (fmmus s) p b ≡ true → governor s.managers b ≡ None
touched_in_free s a p b h t =
    let r = any_below_some p.bits (λ i. leads_into (target (readers (fmmus s)) (p.from + i)) b) t in
    elim (cases_Bool (within a.in_at a.ins (p.from + r.0))) [
      | inl w ↦
          let x = within_parts a.in_at a.ins (p.from + r.0) w in
          let q : ℕ = 8 * a.in_start + (p.from + r.0 - a.in_at) in
          let led : (q / 8 == b) ≡ true = sym (ap (λ (o : Option ℕ). leads_into o b) (h.reads (p.from + r.0) ∙ if_true _ _ _ w)) ∙ r.2 in
          let inside : within (8 * a.in_start) a.ins q ≡ true = within_true (8 * a.in_start) a.ins q (omega arith) (let y = x.0 in let z = x.1 in omega (arith, y, z)) in
          ap (governor s.managers) (sym (eqb-true (q / 8) b led)) ∙ byte_free s.managers a.in_start a.ins q h.ins_free inside
      | inr w ↦ absurd (both_ways (leads_into (target (readers (fmmus s)) (p.from + r.0)) b) (ap (λ (o : Option ℕ). leads_into o b) (h.reads (p.from + r.0) ∙ if_false _ _ _ w)) r.2)
    ]

touched_out_free : (s : SlaveState) (a : Area) (p : LogicalSpan) (b : ℕ) → IsPlain s a → touched_by_writing (fmmus s) p b ≡ true → governor s.managers b ≡ None
touched_out_free s a p b h t =
    let r = any_below_some 8 (λ j. is_some (data_bit_for (fmmus s) p (8 * b + j))) t in
    let q : ℕ = 8 * b + r.0 in
    elim (cases_Bool (within (8 * a.out_start) a.outs q)) [
      | inl w ↦
          let at : q / 8 ≡ b = let x = r.1 in omega (arith, x) in
          ap (governor s.managers) (sym at) ∙ byte_free s.managers a.out_start a.outs q h.outs_free w
      | inr w ↦ absurd (both_ways (is_some (data_bit_for (fmmus s) p q)) (ap is_some (ap (inside_span p) (h.writes q ∙ if_false _ _ _ w))) r.2)
    ]

managers_plain : (s : SlaveState) (a : Area) (reading writing : Bool) (p : LogicalSpan) (bytes : List ℕ) → IsPlain s a
    → logical_managers [] reading writing (fmmus s) p bytes s.managers ≡ s.managers
managers_plain s a reading writing p bytes h =
    let ms : List SyncManager = s.managers in
    let same = length-logical_managers [] reading writing (fmmus s) p bytes ms in
    ext_get_or no_manager (logical_managers [] reading writing (fmmus s) p bytes ms) ms same (λ n l0.
    let l : n < length ms = omega (arith, same, l0) in
    let m : SyncManager = manager_at ms n in
    let own = is_ungoverned (take n ms) in
    let unwritten : is_written_by (touched_by_writing (fmmus s) p) own m ≡ false = elim (cases_Bool (may_write m)) [
      | inl t ↦ and_right (may_write m) _ (and_left _ _ (and_left _ _ (untouched ms (touched_by_writing (fmmus s) p) n l (writable-set m t) (λ b y. touched_out_free s a p b h y))))
      | inr f ↦ and_left (may_write m) _ f
    ] in
    let unread : is_read_by (touched_by_reading (fmmus s) p) own m ≡ false = elim (cases_Bool (may_read m)) [
      | inl t ↦ and_right (may_read m) _ (and_left _ _ (and_left _ _ (untouched ms (touched_by_reading (fmmus s) p) n l (readable-set m t) (λ b y. touched_in_free s a p b h y))))
      | inr f ↦ and_left (may_read m) _ f
    ] in
    manager_at-exchanged [] reading writing (fmmus s) p bytes ms n l
    ∙ (if_false _ _ _ (and_right writing _ unwritten) ∙ if_false _ _ _ (and_right reading _ unread)))

-- ---- the whole

pub memory_put : (s : SlaveState) (a : Area) (p : LogicalSpan) (bytes : List ℕ) → IsPlain s a → Spans p a
    → overlay s.memory (plain_bit s.managers (fmmus s) p bytes) ≡ copied s.memory (8 * a.out_start) bytes (a.out_at - p.from) a.outs
memory_put s a p bytes h c = overlay_alike s.memory _ _ (λ q l. ap (λ (o : Option Bool). unwrap_or o (bit s.memory q)) (plain_told s a p bytes q h c))

memory_plain : (s : SlaveState) (a : Area) (writing : Bool) (p : LogicalSpan) (bytes : List ℕ) → IsPlain s a → Spans p a
    → overlay s.memory (λ q. only_if writing (plain_bit s.managers (fmmus s) p bytes q)) ≡ (if writing then copied s.memory (8 * a.out_start) bytes (a.out_at - p.from) a.outs else s.memory)
memory_plain s a true p bytes h c = memory_put s a p bytes h c
memory_plain s a false p bytes h c = overlay_own s.memory _ (λ q l. refl)

data_plain : (s : SlaveState) (a : Area) (reading : Bool) (p : LogicalSpan) (bytes : List ℕ) → IsPlain s a → Spans p a
    → overlay bytes (λ i. only_if reading (read_bit s.memory s.managers (fmmus s) p i)) ≡ (if reading then copied bytes (a.in_at - p.from) s.memory (8 * a.in_start) a.ins else bytes)
data_plain s a true p bytes h c = overlay_alike bytes _ _ (λ i l. ap (λ (o : Option Bool). unwrap_or o (bit bytes i)) (read_told_as s a p i h c))
data_plain s a false p bytes h c = overlay_own bytes _ (λ i l. refl)

pub plain_placed : (reading writing : Bool) (weight : ℕ) (s : SlaveState) (a : Area) (p : LogicalSpan) (bytes : List ℕ) → IsPlain s a → Spans p a
    → logical_met reading writing weight s p bytes ≡ record {
      slave = with_memory s (if writing then copied s.memory (8 * a.out_start) bytes (a.out_at - p.from) a.outs else s.memory) s.managers;
      bytes = if reading then copied bytes (a.in_at - p.from) s.memory (8 * a.in_start) a.ins else bytes;
      added = from_bool (reading && nat_lt 0 a.ins) + weight * from_bool (writing && nat_lt 0 a.outs);
    }
plain_placed reading writing weight s a p bytes h c =
    rw (memory_plain s a writing p bytes h c, managers_plain s a reading writing p bytes h, data_plain s a reading p bytes h c, some_read_plain s a p h c, some_written_plain s a p bytes h c) refl

-- what is read was not written
pub read_after : (s : SlaveState) (a : Area) (bytes xs : List ℕ) (at to : ℕ) → IsPlain s a
    → copied xs to (copied s.memory (8 * a.out_start) bytes at a.outs) (8 * a.in_start) a.ins ≡ copied xs to s.memory (8 * a.in_start) a.ins
read_after s a bytes xs at to h =
    overlay_alike xs (run_updates to put (8 * a.in_start) a.ins) (run_updates to s.memory (8 * a.in_start) a.ins) (λ i l. ap (λ (o : Option Bool). unwrap_or o (bit xs i)) (same i))
  where
    put : List ℕ
    put = copied s.memory (8 * a.out_start) bytes at a.outs

    kept : (q : ℕ) → within (8 * a.in_start) a.ins q ≡ true → bit put q ≡ bit s.memory q
    kept q own =
        let b = within_parts (8 * a.in_start) a.ins q own in
        bit-overlay s.memory (run_updates (8 * a.out_start) bytes at a.outs) q (let x = b.1 in let y = h.ins_free.to_ram in let z = h.room in omega (arith, x, y, z))
        ∙ ap (λ (o : Option Bool). unwrap_or o (bit s.memory q)) (if_false (within (8 * a.out_start) a.outs q) (Some (bit bytes (at + (q - 8 * a.out_start)))) None (h.apart q own))

    same : (i : ℕ) → run_updates to put (8 * a.in_start) a.ins i ≡ run_updates to s.memory (8 * a.in_start) a.ins i
    same i = elim (cases_Bool (within to a.ins i)) [
      | inl w ↦
          let b = within_parts to a.ins i w in
          let q : ℕ = 8 * a.in_start + (i - to) in
          let own : within (8 * a.in_start) a.ins q ≡ true = within_true (8 * a.in_start) a.ins q (omega arith) (let x = b.0 in let y = b.1 in omega (arith, x, y)) in
          if_true (within to a.ins i) (Some (bit put q)) None w ∙ (ap (λ (x : Bool). Some x) (kept q own) ∙ sym (if_true (within to a.ins i) (Some (bit s.memory q)) None w))
      | inr w ↦ if_false (within to a.ins i) (Some (bit put (8 * a.in_start + (i - to)))) None w ∙ sym (if_false (within to a.ins i) (Some (bit s.memory (8 * a.in_start + (i - to)))) None w)
    ]
