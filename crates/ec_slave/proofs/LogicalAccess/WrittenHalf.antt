-- The writing half of a logical datagram at a mapped slave.
use Rattle.std.proofs.Common.{ℕ, ◌+◌, ◌-◌, ◌*◌, ◌/◌, ◌<◌, ◌≡◌, ◌≢◌, true, false, Some, None, refl, sym, ◌∙◌, ap, inl, inr, arith, if◌then◌else◌, is_some, is_none, List, option_map, unwrap_or, nat_lt, take}
use Rattle.std.proofs.lemmas.Bool.{and_left, and_right, and_from, cases_Bool, cases_lt, lt-ltb, le-ltb}
use Rattle.std.proofs.lemmas.List.{length-replicate}
use Rattle.ec_bits.specs.Bits.{bit, within, bytes_of_bits, zeros}
use Rattle.ec_regs.specs.Memory.{ram_end}
use Rattle.ec_fmmu.specs.Sets.{source, writers}
use Rattle.ec_sync.specs.SyncManager.{may_write}
use Rattle.ec_sync.specs.Governing.{governor, covers, in_first_buffer}
use Rattle.ec_fmmu.specs.Applied.{LogicalSpan, inside_span, touched_by_writing, data_bit_for}
use Rattle.ec_slave.specs.State.{manager_at, SlaveState, fmmus}
use Rattle.ec_slave.specs.Managers.{writes_under}
use Rattle.ec_slave.specs.Logical.{brought, written_bit, plain_bit, logical_value, some_written}
use Rattle.ec_slave.specs.Exchange.{IsMapped, takes, outputs_from}
use Rattle.ec_fmmu.specs.Areas.{Area, Spans}
use Rattle.ec_bits.proofs.BitLaws.{overlay_alike}
use Rattle.ec_slave.proofs.Memory.Governor.{governor-take}
use Rattle.ec_bits.proofs.AnyLaws.{any_below_from, any_below_none, if_none, if_false, if_true, within_true, within_below, within_above, within_parts}

-- the data bit that goes to bit j of the outputs
data_bit_out : (s : SlaveState) (a : Area) (p : LogicalSpan) (j : ℕ) → IsMapped s a → Spans p a → j < a.outs → data_bit_for (fmmus s) p (8 * a.out_start + j) ≡ Some (a.out_at + j - p.from)
data_bit_out s a p j h c l =
    let z : a.out_at + (8 * a.out_start + j - 8 * a.out_start) ≡ a.out_at + j = omega arith in
    let w : within p.from p.bits (a.out_at + j) ≡ true = within_true p.from p.bits (a.out_at + j) (let x = c.out_from in omega arith) (let x = c.out_to in omega arith) in
    let e : source (writers (fmmus s)) (8 * a.out_start + j) ≡ Some (a.out_at + j)
    = h.writes (8 * a.out_start + j) ∙ (if_true _ _ _ (within_true (8 * a.out_start) a.outs (8 * a.out_start + j) (omega arith) (omega arith)) ∙ ap (λ x. Some x) z) in
    ap (inside_span p) e ∙ if_true _ _ _ w

no_data_bit : (s : SlaveState) (a : Area) (p : LogicalSpan) (q : ℕ) → IsMapped s a → within (8 * a.out_start) a.outs q ≡ false → data_bit_for (fmmus s) p q ≡ None
no_data_bit s a p q h f = ap (inside_span p) (h.writes q ∙ if_false _ _ _ f)

pub touches_out : (s : SlaveState) (a : Area) (p : LogicalSpan) (k : ℕ) → IsMapped s a → Spans p a → k < bytes_of_bits a.outs → touched_by_writing (fmmus s) p (a.out_start + k) ≡ true
touches_out s a p k h c l =
    let e : 8 * (a.out_start + k) + 0 ≡ 8 * a.out_start + 8 * k = omega arith in
    any_below_from 8 _ 0 (omega arith) (ap (λ q. is_some (data_bit_for (fmmus s) p q)) e ∙ ap is_some (data_bit_out s a p (8 * k) h c (omega arith)))

pub touches_out_only : (s : SlaveState) (a : Area) (p : LogicalSpan) (b : ℕ) → IsMapped s a → ((k : ℕ) → k < bytes_of_bits a.outs → b ≢ a.out_start + k) → touched_by_writing (fmmus s) p b ≡ false
touches_out_only s a p b h elsewhere = any_below_none 8 _ (λ j l. ap is_some (no_data_bit s a p (8 * b + j) h (elim (cases_lt (8 * b + j) (8 * a.out_start)) [
  | inl x ↦ within_below (8 * a.out_start) a.outs (8 * b + j) x
  | inr x ↦ elim (cases_lt (8 * b + j) (8 * a.out_start + a.outs)) [
    | inl y ↦ absurd (elsewhere (b - a.out_start) (omega arith) (omega arith))
    | inr y ↦ within_above (8 * a.out_start) a.outs (8 * b + j) y
  ]
])))

pub covers_out : (s : SlaveState) (a : Area) (p : LogicalSpan) → IsMapped s a → Spans p a → 0 < a.outs → covers (touched_by_writing (fmmus s) p) (manager_at s.managers 2) ≡ true
covers_out s a p h c l =
    let b = h.out_buffer l in
    let m = (manager_at s.managers 2).settings in
    let e0 : m.start ≡ a.out_start + 0 = let x = b.start_is in omega arith in
    let e1 : m.start + m.length - 1 ≡ a.out_start + (bytes_of_bits a.outs - 1) = let x = b.start_is in let y = b.length_is in omega arith in
    and_from _ _ (ap (touched_by_writing (fmmus s) p) e0 ∙ touches_out s a p 0 h c (omega arith))
    (ap (touched_by_writing (fmmus s) p) e1 ∙ touches_out s a p (bytes_of_bits a.outs - 1) h c (omega arith))

-- what bit j of the outputs becomes
pub written_out : (s : SlaveState) (a : Area) (p : LogicalSpan) (bytes : List ℕ) (j : ℕ) → IsMapped s a → Spans p a → j < a.outs → written_bit s.managers (fmmus s) p bytes (8 * a.out_start + j) ≡ (if may_write (manager_at s.managers 2) then Some (bit bytes (a.out_at + j - p.from)) else None)
written_out s a p bytes j h c l =
    let b = h.out_buffer (omega arith) in
    let m = manager_at s.managers 2 in
    let at : (8 * a.out_start + j) / 8 ≡ a.out_start + j / 8 = omega arith in
    let g : governor s.managers ((8 * a.out_start + j) / 8) ≡ Some 2 = ap (governor s.managers) at ∙ h.out_governed (j / 8) (omega arith) in
    let front : in_first_buffer m ((8 * a.out_start + j) / 8) ≡ true = lt-ltb _ _ (let x = b.start_is in let y = b.length_is in omega arith) in
    let may : writes_under s.managers (touched_by_writing (fmmus s) p) ((8 * a.out_start + j) / 8) (Some 2) ≡ may_write m
    = rw (front, covers_out s a p h c (omega arith)) refl in
    rw (g, may, data_bit_out s a p j h c l) refl

pub written_elsewhere : (s : SlaveState) (a : Area) (p : LogicalSpan) (bytes : List ℕ) (q : ℕ) → IsMapped s a → within (8 * a.out_start) a.outs q ≡ false → written_bit s.managers (fmmus s) p bytes q ≡ None
written_elsewhere s a p bytes q h f = if_none _ _ (ap (option_map (bit bytes)) (no_data_bit s a p q h f))

pub some_written_is : (s : SlaveState) (a : Area) (p : LogicalSpan) (bytes : List ℕ) → IsMapped s a → Spans p a → some_written s.managers (fmmus s) p bytes ≡ takes s a
some_written_is s a p bytes h c = elim (cases_lt 0 a.outs) [
  | inl l ↦ elim (cases_Bool (may_write (manager_at s.managers 2))) [
    | inl t ↦
        let b = h.out_buffer l in
        any_below_from (8 * ram_end) _ (8 * a.out_start + 0) (let x = b.to_ram in omega arith) (ap is_some (written_out s a p bytes 0 h c l ∙ if_true _ _ _ t))
        ∙ sym (and_from _ _ (lt-ltb 0 a.outs l) t)
    | inr f ↦
        any_below_none (8 * ram_end) _ (λ q k. ap is_some (elim (cases_Bool (within (8 * a.out_start) a.outs q)) as (λ _. written_bit s.managers (fmmus s) p bytes q ≡ None) [
          | inl t ↦
              let w = within_parts (8 * a.out_start) a.outs q t in
              let e : q ≡ 8 * a.out_start + (q - 8 * a.out_start) = let x = w.0 in omega arith in
              ap (written_bit s.managers (fmmus s) p bytes) e ∙ (written_out s a p bytes (q - 8 * a.out_start) h c (let x = w.0 in let y = w.1 in omega arith) ∙ if_false _ _ _ f)
          | inr g ↦ written_elsewhere s a p bytes q h g
        ]))
        ∙ sym (and_right (nat_lt 0 a.outs) _ f)
  ]
  | inr l ↦
      any_below_none (8 * ram_end) _ (λ q k. ap is_some (written_elsewhere s a p bytes q h (elim (cases_lt q (8 * a.out_start)) [
        | inl x ↦ within_below (8 * a.out_start) a.outs q x
        | inr x ↦ within_above (8 * a.out_start) a.outs q (omega arith)
      ])))
      ∙ sym (and_left (nat_lt 0 a.outs) _ (le-ltb 0 a.outs l))
]

-- what the datagram brings to bit j of the outputs
brought_out : (s : SlaveState) (a : Area) (p : LogicalSpan) (bytes : List ℕ) (j : ℕ) → IsMapped s a → Spans p a → j < a.outs → brought (fmmus s) p bytes (8 * a.out_start + j) ≡ Some (bit bytes (a.out_at + j - p.from))
brought_out s a p bytes j h c l = ap (option_map (bit bytes)) (data_bit_out s a p j h c l)

brought_elsewhere : (s : SlaveState) (a : Area) (p : LogicalSpan) (bytes : List ℕ) (q : ℕ) → IsMapped s a → within (8 * a.out_start) a.outs q ≡ false → brought (fmmus s) p bytes q ≡ None
brought_elsewhere s a p bytes q h f = ap (option_map (bit bytes)) (no_data_bit s a p q h f)

-- no plain byte is written
pub written_or_governed : (s : SlaveState) (a : Area) (p : LogicalSpan) (bytes : List ℕ) (q : ℕ) → IsMapped s a → plain_bit s.managers (fmmus s) p bytes q ≡ None
written_or_governed s a p bytes q h = elim (cases_Bool (within (8 * a.out_start) a.outs q)) [
  | inl t ↦
      let w = within_parts (8 * a.out_start) a.outs q t in
      let e : q / 8 ≡ a.out_start + (q / 8 - a.out_start) = let x = w.0 in omega arith in
      let g : governor s.managers (q / 8) ≡ Some 2 = ap (governor s.managers) e ∙ h.out_governed (q / 8 - a.out_start) (let x = w.0 in let y = w.1 in omega arith) in
      if_false _ _ _ (ap is_none g)
  | inr f ↦ if_none _ _ (brought_elsewhere s a p bytes q h f)
]

-- the whole value that manager 2 gets
pub value_is : (s : SlaveState) (a : Area) (p : LogicalSpan) (bytes : List ℕ) → IsMapped s a → Spans p a → 0 < a.outs
    → logical_value (take 2 s.managers) (fmmus s) p bytes (manager_at s.managers 2).settings.start (manager_at s.managers 2).settings.length ≡ outputs_from a p bytes
value_is s a p bytes h c l =
    let b = h.out_buffer l in
    let low = take 2 s.managers in
    rw (b.length_is, b.start_is) (overlay_alike (zeros (bytes_of_bits a.outs)) _ _ (λ k x. ap (λ o. unwrap_or o (bit (zeros (bytes_of_bits a.outs)) k))
    (let y : k < 8 * bytes_of_bits a.outs = let z = length-replicate {A = ℕ} (bytes_of_bits a.outs) 0 in omega (arith, z) in
    let at : (8 * a.out_start + k) / 8 ≡ a.out_start + k / 8 = omega arith in
    let g : governor low ((8 * a.out_start + k) / 8) ≡ None = ap (governor low) at ∙ governor-take s.managers 2 (a.out_start + k / 8) (h.out_governed (k / 8) (omega arith)) in
    let d : plain_bit low (fmmus s) p bytes (8 * a.out_start + k) ≡ brought (fmmus s) p bytes (8 * a.out_start + k)
    = if_true _ _ _ (ap is_none g) in
    d ∙ elim (cases_lt k a.outs) as (λ _. brought (fmmus s) p bytes (8 * a.out_start + k) ≡ (if nat_lt k a.outs then Some (bit bytes (a.out_at + k - p.from)) else None)) [
      | inl u ↦ brought_out s a p bytes k h c u ∙ sym (if_true _ _ _ (lt-ltb k a.outs u))
      | inr u ↦ brought_elsewhere s a p bytes (8 * a.out_start + k) h (within_above (8 * a.out_start) a.outs (8 * a.out_start + k) (omega arith)) ∙ sym (if_false _ _ _ (le-ltb k a.outs u))
    ])))
