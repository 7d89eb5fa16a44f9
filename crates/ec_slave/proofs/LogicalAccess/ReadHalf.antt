-- The reading half of a logical datagram at a mapped slave.
use Rattle.std.proofs.Common.{ℕ, ◌+◌, ◌-◌, ◌*◌, ◌/◌, ◌<◌, ◌≤◌, ◌≡◌, ◌≢◌, true, false, Some, None, refl, sym, ◌∙◌, ap, inl, inr, arith, if◌then◌else◌, is_some, option_and_then, nat_lt}
use Rattle.std.proofs.lemmas.Bool.{and_left, and_right, and_from, cases_Bool, cases_lt, lt-ltb, le-ltb, eq-eqb, ne_eqb}
use Rattle.ec_bits.specs.Bits.{bit, within, bytes_of_bits}
use Rattle.ec_fmmu.specs.Sets.{target, readers}
use Rattle.ec_sync.specs.SyncManager.{may_read}
use Rattle.ec_sync.specs.Governing.{governor, covers, in_first_buffer}
use Rattle.ec_fmmu.specs.Applied.{LogicalSpan, leads_into, touched_by_reading}
use Rattle.ec_slave.specs.State.{manager_at, SlaveState, fmmus}
use Rattle.ec_slave.specs.Managers.{reads_under, visible_under}
use Rattle.ec_slave.specs.Logical.{read_bit, readable_bit, some_read}
use Rattle.ec_slave.specs.Exchange.{IsMapped, gives, inputs_of}
use Rattle.ec_fmmu.specs.Areas.{Area, Spans}
use Rattle.ec_bits.proofs.AnyLaws.{any_below_from, any_below_none, if_false, if_true, within_true, within_below, within_above, within_parts}

read_target : (s : SlaveState) (a : Area) (l : ℕ) → IsMapped s a → a.in_at ≤ l → l < a.in_at + a.ins → target (readers (fmmus s)) l ≡ Some (8 * a.in_start + (l - a.in_at))
read_target s a l h x y = h.reads l ∙ if_true _ _ _ (within_true a.in_at a.ins l x y)

-- the addresses that are read are those of the area
pub touches_in : (s : SlaveState) (a : Area) (p : LogicalSpan) (k : ℕ) → IsMapped s a → Spans p a → k < bytes_of_bits a.ins → touched_by_reading (fmmus s) p (a.in_start + k) ≡ true
touches_in s a p k h c l =
    let i = a.in_at + 8 * k - p.from in
    let e : p.from + i ≡ a.in_at + 8 * k = let f = c.in_from in omega arith in
    let r = read_target s a (p.from + i) h (omega arith) (omega arith) in
    let q : (8 * a.in_start + (p.from + i - a.in_at)) / 8 ≡ a.in_start + k = omega arith in
    any_below_from p.bits _ i (let f = c.in_to in let g = c.in_from in omega arith) (ap (λ o. leads_into o (a.in_start + k)) r ∙ eq-eqb _ _ q)

pub touches_in_only : (s : SlaveState) (a : Area) (p : LogicalSpan) (b : ℕ) → IsMapped s a → ((k : ℕ) → k < bytes_of_bits a.ins → b ≢ a.in_start + k) → touched_by_reading (fmmus s) p b ≡ false
touches_in_only s a p b h elsewhere = any_below_none p.bits _ (λ i l. elim (cases_Bool (within a.in_at a.ins (p.from + i))) [
  | inl t ↦
      let w = within_parts a.in_at a.ins (p.from + i) t in
      let j = p.from + i - a.in_at in
      let f : (8 * a.in_start + j) / 8 ≢ b = λ e. elsewhere (j / 8) (let u = w.0 in let v = w.1 in omega arith) (omega arith) in
      ap (λ o. leads_into o b) (read_target s a (p.from + i) h w.0 w.1) ∙ ne_eqb _ _ f
  | inr f ↦ ap (λ o. leads_into o b) (h.reads (p.from + i) ∙ if_false _ _ _ f)
])

covers_in : (s : SlaveState) (a : Area) (p : LogicalSpan) → IsMapped s a → Spans p a → 0 < a.ins → covers (touched_by_reading (fmmus s) p) (manager_at s.managers 3) ≡ true
covers_in s a p h c l =
    let b = h.in_buffer l in
    let m = (manager_at s.managers 3).settings in
    let e0 : m.start ≡ a.in_start + 0 = let x = b.start_is in omega arith in
    let e1 : m.start + m.length - 1 ≡ a.in_start + (bytes_of_bits a.ins - 1) = let x = b.start_is in let y = b.length_is in omega arith in
    and_from _ _ (ap (touched_by_reading (fmmus s) p) e0 ∙ touches_in s a p 0 h c (omega arith))
    (ap (touched_by_reading (fmmus s) p) e1 ∙ touches_in s a p (bytes_of_bits a.ins - 1) h c (omega arith))

-- what the ring reads at bit j of the inputs
pub read_in : (s : SlaveState) (a : Area) (p : LogicalSpan) (j : ℕ) → IsMapped s a → Spans p a → j < a.ins → readable_bit s.memory s.managers (fmmus s) p (8 * a.in_start + j) ≡ (if may_read (manager_at s.managers 3) then Some (bit (inputs_of s) j) else None)
read_in s a p j h c l =
    let b = h.in_buffer (omega arith) in
    let m = manager_at s.managers 3 in
    let at : (8 * a.in_start + j) / 8 ≡ a.in_start + j / 8 = omega arith in
    let g : governor s.managers ((8 * a.in_start + j) / 8) ≡ Some 3 = ap (governor s.managers) at ∙ h.in_governed (j / 8) (omega arith) in
    let front : in_first_buffer m ((8 * a.in_start + j) / 8) ≡ true = lt-ltb _ _ (let x = b.start_is in let y = b.length_is in omega arith) in
    let place : 8 * a.in_start + j - 8 * m.settings.start ≡ j = let x = b.start_is in omega arith in
    let value : visible_under s.memory s.managers (8 * a.in_start + j) (Some 3) ≡ bit (inputs_of s) j
    = ap (λ xs. bit xs (8 * a.in_start + j - 8 * m.settings.start)) (if_false _ _ _ b.no_mailbox) ∙ ap (bit (inputs_of s)) place in
    let may : reads_under s.managers (touched_by_reading (fmmus s) p) ((8 * a.in_start + j) / 8) (Some 3) ≡ may_read m
    = rw (front, covers_in s a p h c (omega arith)) refl in
    rw (g, may, value) refl

-- data bit i after a reading
pub read_bit_in : (s : SlaveState) (a : Area) (p : LogicalSpan) (i : ℕ) → IsMapped s a → Spans p a → within a.in_at a.ins (p.from + i) ≡ true → read_bit s.memory s.managers (fmmus s) p i ≡ (if may_read (manager_at s.managers 3) then Some (bit (inputs_of s) (p.from + i - a.in_at)) else None)
read_bit_in s a p i h c t =
    let w = within_parts a.in_at a.ins (p.from + i) t in
    ap (option_and_then (readable_bit s.memory s.managers (fmmus s) p)) (read_target s a (p.from + i) h w.0 w.1)
    ∙ read_in s a p (p.from + i - a.in_at) h c (let x = w.0 in let y = w.1 in omega arith)

pub read_bit_out : (s : SlaveState) (a : Area) (p : LogicalSpan) (i : ℕ) → IsMapped s a → within a.in_at a.ins (p.from + i) ≡ false → read_bit s.memory s.managers (fmmus s) p i ≡ None
read_bit_out s a p i h f = ap (option_and_then (readable_bit s.memory s.managers (fmmus s) p)) (h.reads (p.from + i) ∙ if_false _ _ _ f)

-- a bit was read exactly where the slave gives its inputs
pub some_read_is : (s : SlaveState) (a : Area) (p : LogicalSpan) → IsMapped s a → Spans p a → some_read s.memory s.managers (fmmus s) p ≡ gives s a
some_read_is s a p h c = elim (cases_lt 0 a.ins) [
  | inl l ↦ elim (cases_Bool (may_read (manager_at s.managers 3))) [
    | inl t ↦
        let i = a.in_at - p.from in
        let e : p.from + i ≡ a.in_at = let f = c.in_from in omega arith in
        let w : within a.in_at a.ins (p.from + i) ≡ true = within_true a.in_at a.ins (p.from + i) (omega arith) (omega arith) in
        any_below_from p.bits _ i (let f = c.in_to in let g = c.in_from in omega arith) (ap is_some (read_bit_in s a p i h c w ∙ if_true _ _ _ t))
        ∙ sym (and_from _ _ (lt-ltb 0 a.ins l) t)
    | inr f ↦
        any_below_none p.bits _ (λ i k. ap is_some (elim (cases_Bool (within a.in_at a.ins (p.from + i))) as (λ _. read_bit s.memory s.managers (fmmus s) p i ≡ None) [
          | inl t ↦ read_bit_in s a p i h c t ∙ if_false _ _ _ f
          | inr g ↦ read_bit_out s a p i h g
        ]))
        ∙ sym (and_right (nat_lt 0 a.ins) _ f)
  ]
  | inr l ↦
      any_below_none p.bits _ (λ i k. ap is_some (read_bit_out s a p i h (elim (cases_lt (p.from + i) a.in_at) [
        | inl x ↦ within_below a.in_at a.ins (p.from + i) x
        | inr x ↦ within_above a.in_at a.ins (p.from + i) (omega arith)
      ])))
      ∙ sym (and_left (nat_lt 0 a.ins) _ (le-ltb 0 a.ins l))
]
