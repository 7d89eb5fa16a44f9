-- A logical datagram that has a mapped slave's whole area.
use Rattle.std.proofs.Common.{ℕ, ◌+◌, ◌-◌, ◌*◌, ◌<◌, ◌≤◌, ◌≡◌, ◌≢◌, ◌&&◌, Bool, true, false, Some, None, refl, sym, ◌∙◌, ap, subst, inl, inr, arith, if◌then◌else◌, List, [], length, get_or, set, take, is_none, unwrap_or, nat_lt, ext_get_or, length-set, get_or-set_same, get_or-set_other}
use Rattle.std.proofs.lemmas.Bool.{and_left, and_right, and_from, and_parts, cases_Bool, cases_lt, cases_eq, lt-ltb, le-ltb, ltb-true, both_ways, false_from_ne_true}
use Rattle.std.specs.Int.{from_bool}
use Rattle.ec_bits.specs.Bits.{bit, overlay, within, bytes_of_bits}
use Rattle.ec_bits.proofs.BitLaws.{overlay_alike, overlay_own}
use Rattle.ec_bits.proofs.AnyLaws.{any_below_from, if_none, if_false, if_true, within_true, within_parts, within_below, within_above}
use Rattle.ec_sync.specs.SyncManager.{no_manager, SyncManager, may_write, may_read, ring_read}
use Rattle.ec_sync.specs.Governing.{governor}
use Rattle.ec_fmmu.specs.Applied.{LogicalSpan, touched_by_reading, touched_by_writing}
use Rattle.ec_slave.specs.State.{manager_at, SlaveState, MetBytes, fmmus, with_answer, with_memory}
use Rattle.ec_slave.specs.Managers.{gets_at, is_read_by, is_ungoverned, is_written_by, manager_after}
use Rattle.ec_slave.specs.Logical.{span_of, read_bit, plain_bit, logical_value, logical_managers, logical_met, only_if, meets_logically}
use Rattle.ec_slave.specs.LogicalLaws.{ExchangeLaw}
use Rattle.ec_slave.specs.Exchange.{IsMapped, takes, gives, outputs_from, inputs_into, inputs_of, with_outputs, with_published}
use Rattle.ec_fmmu.specs.Areas.{Area, Spans}
use Rattle.ec_slave.proofs.Memory.AgainstAll.{readable-set, writable-set}
use Rattle.ec_slave.proofs.Memory.Governor.{governor-take, others-untouched, length-logical_managers, manager_at-exchanged}
use Rattle.ec_slave.proofs.LogicalAccess.ReadHalf.{touches_in_only, read_bit_in, read_bit_out, some_read_is}
use Rattle.ec_slave.proofs.LogicalAccess.WrittenHalf.{touches_out, touches_out_only, some_written_is, written_or_governed, value_is, covers_out}

-- what the datagram touches is governed by manager 2, or by manager 3
touched_out : (s : SlaveState) (a : Area) (p : LogicalSpan) (b : ℕ) → IsMapped s a → touched_by_writing (fmmus s) p b ≡ true → governor s.managers b ≡ Some 2
touched_out s a p b h t = elim (cases_Bool (within a.out_start (bytes_of_bits a.outs) b)) [
  | inl y ↦
      let w = within_parts a.out_start (bytes_of_bits a.outs) b y in
      let e : b ≡ a.out_start + (b - a.out_start) = let x = w.0 in omega arith in
      ap (governor s.managers) e ∙ h.out_governed (b - a.out_start) (let x = w.0 in let z = w.1 in omega arith)
  | inr n ↦ absurd (both_ways _ (touches_out_only s a p b h (λ k l e. both_ways _ n (within_true a.out_start (bytes_of_bits a.outs) b (omega arith) (omega arith)))) t)
]

touched_in : (s : SlaveState) (a : Area) (p : LogicalSpan) (b : ℕ) → IsMapped s a → touched_by_reading (fmmus s) p b ≡ true → governor s.managers b ≡ Some 3
touched_in s a p b h t = elim (cases_Bool (within a.in_start (bytes_of_bits a.ins) b)) [
  | inl y ↦
      let w = within_parts a.in_start (bytes_of_bits a.ins) b y in
      let e : b ≡ a.in_start + (b - a.in_start) = let x = w.0 in omega arith in
      ap (governor s.managers) e ∙ h.in_governed (b - a.in_start) (let x = w.0 in let z = w.1 in omega arith)
  | inr n ↦ absurd (both_ways _ (touches_in_only s a p b h (λ k l e. both_ways _ n (within_true a.in_start (bytes_of_bits a.ins) b (omega arith) (omega arith)))) t)
]

-- the bytes that are a manager's own
abbrev own : SlaveState → ℕ → ℕ → Bool
own s n = is_ungoverned (take n s.managers)

-- a manager that isn't written
not_written : (s : SlaveState) (a : Area) (p : LogicalSpan) (n : ℕ) → IsMapped s a → n < 4 → n ≢ 2 → is_written_by (touched_by_writing (fmmus s) p) (own s n) (manager_at s.managers n) ≡ false
not_written s a p n h l ne = elim (cases_Bool (may_write (manager_at s.managers n))) [
  | inl t ↦ and_right _ _ (others-untouched s.managers (touched_by_writing (fmmus s) p) n 2 (let e = h.four in omega arith) ne (writable-set (manager_at s.managers n) t) (λ b y. touched_out s a p b h y))
  | inr f ↦ and_left _ _ f
]

-- a manager after a reading: no mailbox is read
not_emptied : (s : SlaveState) (a : Area) (reading : Bool) (p : LogicalSpan) (n : ℕ) → IsMapped s a → n < 4 → (if reading && is_read_by (touched_by_reading (fmmus s) p) (own s n) (manager_at s.managers n) then ring_read (manager_at s.managers n) else manager_at s.managers n) ≡ manager_at s.managers n
not_emptied s a reading p n h l =
    let m = manager_at s.managers n in
    elim (cases_eq n 3) [
      | inl e ↦ elim (cases_lt 0 a.ins) [
        | inl i ↦
            let r : ring_read (manager_at s.managers 3) ≡ manager_at s.managers 3 = if_false _ _ _ (h.in_buffer i).no_mailbox in
            rw (e, r) (elim (cases_Bool (reading && is_read_by (touched_by_reading (fmmus s) p) (own s 3) (manager_at s.managers 3))) [
              | inl t ↦ if_true _ _ _ t
              | inr f ↦ if_false _ _ _ f
            ])
        | inr z ↦ if_false _ _ _ (and_right reading _ (and_right (may_read m) _ (and_left _ _ (and_left _ _ (touches_in_only s a p m.settings.start h (λ k b. absurd (omega arith)))))))
      ]
      | inr ne ↦ if_false _ _ _ (and_right reading _ (elim (cases_Bool (may_read m)) as (λ _. is_read_by (touched_by_reading (fmmus s) p) (own s n) m ≡ false) [
        | inl t ↦ and_right _ _ (others-untouched s.managers (touched_by_reading (fmmus s) p) n 3 (let e = h.four in omega arith) ne (readable-set m t) (λ b y. touched_in s a p b h y))
        | inr f ↦ and_left _ _ f
      ]))
    ]

-- manager 2 where the slave takes no outputs
not_taken : (s : SlaveState) (a : Area) (writing : Bool) (p : LogicalSpan) → IsMapped s a → (writing && takes s a) ≡ false → (writing && is_written_by (touched_by_writing (fmmus s) p) (own s 2) (manager_at s.managers 2)) ≡ false
not_taken s a writing p h f =
    let m = manager_at s.managers 2 in
    elim (cases_Bool writing) [
      | inl t ↦ and_right writing _ (elim (cases_lt 0 a.outs) as (λ _. is_written_by (touched_by_writing (fmmus s) p) (own s 2) m ≡ false) [
        | inl o ↦ and_left (may_write m) _ (false_from_ne_true (may_write m) (λ w. both_ways (writing && takes s a) f (and_from writing (takes s a) t (and_from (nat_lt 0 a.outs) (may_write m) (lt-ltb 0 a.outs o) w))))
        | inr z ↦ and_right (may_write m) _ (and_left _ _ (and_left (touched_by_writing (fmmus s) p m.settings.start) _ (touches_out_only s a p m.settings.start h (λ k b. absurd (omega arith)))))
      ])
      | inr g ↦ and_left writing _ g
    ]

-- a datagram that has the area gets at manager 2
reaches_out : (s : SlaveState) (a : Area) (p : LogicalSpan) → IsMapped s a → Spans p a → 0 < a.outs → gets_at (touched_by_writing (fmmus s) p) (own s 2) (manager_at s.managers 2) ≡ true
reaches_out s a p h c o =
    let m = manager_at s.managers 2 in
    let b = h.out_buffer o in
    let at : m.settings.start + 0 ≡ a.out_start + 0 = let x = b.start_is in omega arith in
    let some : 0 < m.settings.length = let x = b.length_is in omega arith in
    let free : own s 2 (m.settings.start + 0) ≡ true = ap (own s 2) at ∙ ap is_none (governor-take s.managers 2 (a.out_start + 0) (h.out_governed 0 (omega arith))) in
    let touched : touched_by_writing (fmmus s) p (m.settings.start + 0) ≡ true = ap (touched_by_writing (fmmus s) p) at ∙ touches_out s a p 0 h c (omega arith) in
    and_from _ _ (covers_out s a p h c o) (any_below_from m.settings.length _ 0 some (and_from _ _ touched free))

managers_kept : (s : SlaveState) (a : Area) (reading writing : Bool) (p : LogicalSpan) (bytes : List ℕ) → IsMapped s a → (writing && takes s a) ≡ false → logical_managers [] reading writing (fmmus s) p bytes s.managers ≡ s.managers
managers_kept s a reading writing p bytes h f =
    let after = logical_managers [] reading writing (fmmus s) p bytes s.managers in
    let same = length-logical_managers [] reading writing (fmmus s) p bytes s.managers in
    ext_get_or no_manager after s.managers same (λ n l0.
    let l1 : n < length s.managers = omega (arith, same) in
    let l : n < 4 = let e = h.four in omega arith in
    let test : (writing && is_written_by (touched_by_writing (fmmus s) p) (own s n) (manager_at s.managers n)) ≡ false
    = elim (cases_eq n 2) as (λ _. (writing && is_written_by (touched_by_writing (fmmus s) p) (own s n) (manager_at s.managers n)) ≡ false) [
      | inl e ↦ subst (λ (k : ℕ). (writing && is_written_by (touched_by_writing (fmmus s) p) (own s k) (manager_at s.managers k)) ≡ false) (sym e) (not_taken s a writing p h f)
      | inr ne ↦ and_right writing _ (not_written s a p n h l ne)
    ] in
    manager_at-exchanged [] reading writing (fmmus s) p bytes s.managers n l1
    ∙ (if_false _ _ _ test ∙ not_emptied s a reading p n h l))

taken : (s : SlaveState) (a : Area) (reading writing : Bool) (p : LogicalSpan) (bytes : List ℕ) → IsMapped s a → Spans p a → (writing && takes s a) ≡ true
    → manager_after reading writing (touched_by_reading (fmmus s) p) (touched_by_writing (fmmus s) p) (own s 2) (logical_value (take 2 s.managers) (fmmus s) p bytes) (manager_at s.managers 2) ≡ with_published (manager_at s.managers 2) (outputs_from a p bytes)
taken s a reading writing p bytes h c t =
    let m = manager_at s.managers 2 in
    let parts = and_parts writing (takes s a) t in
    let both = and_parts (nat_lt 0 a.outs) (may_write m) parts.1 in
    let o : 0 < a.outs = ltb-true 0 a.outs both.0 in
    if_true _ _ _ (and_from _ _ parts.0 (and_from _ _ both.1 (reaches_out s a p h c o)))
    ∙ (if_false _ _ _ (h.out_buffer o).no_mailbox ∙ ap (with_published m) (value_is s a p bytes h c o))

managers_set : (s : SlaveState) (a : Area) (reading writing : Bool) (p : LogicalSpan) (bytes : List ℕ) → IsMapped s a → Spans p a → (writing && takes s a) ≡ true → logical_managers [] reading writing (fmmus s) p bytes s.managers ≡ set s.managers 2 (with_published (manager_at s.managers 2) (outputs_from a p bytes))
managers_set s a reading writing p bytes h c t =
    let F = λ (n : ℕ) (m : SyncManager). manager_after reading writing (touched_by_reading (fmmus s) p) (touched_by_writing (fmmus s) p) (own s n) (logical_value (take n s.managers) (fmmus s) p bytes) m in
    let after = logical_managers [] reading writing (fmmus s) p bytes s.managers in
    let same = length-logical_managers [] reading writing (fmmus s) p bytes s.managers in
    let new = with_published (manager_at s.managers 2) (outputs_from a p bytes) in
    let two : 2 < length s.managers = let e = h.four in omega arith in
    ext_get_or no_manager after (set s.managers 2 new) (same ∙ sym (length-set s.managers 2 new)) (λ n l0.
    let l1 : n < length s.managers = omega (arith, same) in
    let l : n < 4 = let e = h.four in omega arith in
    manager_at-exchanged [] reading writing (fmmus s) p bytes s.managers n l1
    ∙ elim (cases_eq n 2) as (λ _. F n (manager_at s.managers n) ≡ get_or (set s.managers 2 new) n no_manager) [
      | inl e ↦ subst (λ (k : ℕ). F k (manager_at s.managers k) ≡ get_or (set s.managers 2 new) k no_manager) (sym e) (taken s a reading writing p bytes h c t ∙ sym (get_or-set_same s.managers 2 new no_manager two))
      | inr ne ↦ if_false _ _ _ (and_right writing _ (not_written s a p n h l ne)) ∙ (not_emptied s a reading p n h l ∙ sym (get_or-set_other s.managers 2 n new no_manager ne))
    ])

physical_after : (s : SlaveState) (a : Area) (reading writing : Bool) (p : LogicalSpan) (bytes : List ℕ) → IsMapped s a → Spans p a → with_memory s s.memory (logical_managers [] reading writing (fmmus s) p bytes s.managers) ≡ (if writing && takes s a then with_outputs s (outputs_from a p bytes) else s)
physical_after s a reading writing p bytes h c = elim (cases_Bool (writing && takes s a)) [
  | inl t ↦ ap (with_memory s s.memory) (managers_set s a reading writing p bytes h c t) ∙ sym (if_true _ _ _ t)
  | inr f ↦ ap (with_memory s s.memory) (managers_kept s a reading writing p bytes h f) ∙ sym (if_false _ _ _ f)
]

data_after : (s : SlaveState) (a : Area) (reading : Bool) (p : LogicalSpan) (bytes : List ℕ) → IsMapped s a → Spans p a → overlay bytes (λ i. only_if reading (read_bit s.memory s.managers (fmmus s) p i)) ≡ (if reading && gives s a then inputs_into a p (inputs_of s) bytes else bytes)
data_after s a reading p bytes h c = elim (cases_Bool reading) [
  | inl r ↦ elim (cases_Bool (may_read (manager_at s.managers 3))) [
    | inl t ↦ elim (cases_lt 0 a.ins) [
      | inl l ↦ overlay_alike bytes _ _ (λ i k. ap (λ o. unwrap_or o (bit bytes i)) (if_true _ _ _ r ∙ elim (cases_Bool (within a.in_at a.ins (p.from + i))) as (λ _. read_bit s.memory s.managers (fmmus s) p i ≡ (if within a.in_at a.ins (p.from + i) then Some (bit (inputs_of s) (p.from + i - a.in_at)) else None)) [
        | inl w ↦ read_bit_in s a p i h c w ∙ (if_true _ _ _ t ∙ sym (if_true _ _ _ w))
        | inr w ↦ read_bit_out s a p i h w ∙ sym (if_false _ _ _ w)
      ]))
          ∙ sym (if_true _ _ _ (and_from _ _ r (and_from _ _ (lt-ltb 0 a.ins l) t)))
      | inr z ↦ overlay_own bytes _ (λ i k. ap (λ o. unwrap_or o (bit bytes i)) (if_none reading _ (read_bit_out s a p i h (no_ins a (p.from + i) z))))
          ∙ sym (if_false _ _ _ (and_right reading _ (and_left _ _ (le-ltb 0 a.ins z))))
    ]
    | inr f ↦ overlay_own bytes _ (λ i k. ap (λ o. unwrap_or o (bit bytes i)) (if_none reading _ (elim (cases_Bool (within a.in_at a.ins (p.from + i))) as (λ _. read_bit s.memory s.managers (fmmus s) p i ≡ None) [
      | inl w ↦ read_bit_in s a p i h c w ∙ if_false _ _ _ f
      | inr w ↦ read_bit_out s a p i h w
    ])))
        ∙ sym (if_false _ _ _ (and_right reading _ (and_right _ _ f)))
  ]
  | inr r ↦ overlay_own bytes _ (λ i k. ap (λ o. unwrap_or o (bit bytes i)) (if_false _ _ _ r)) ∙ sym (if_false _ _ _ (and_left _ _ r))
]
  where
    no_ins : (a : Area) (l : ℕ) → a.ins ≤ 0 → within a.in_at a.ins l ≡ false
    no_ins a l z = elim (cases_lt l a.in_at) [
      | inl x ↦ within_below a.in_at a.ins l x
      | inr x ↦ within_above a.in_at a.ins l (omega arith)
    ]

-- What the data of a logical datagram does to a mapped slave.
pub exchange_placed : (reading writing : Bool) (weight : ℕ) (s : SlaveState) (a : Area) (p : LogicalSpan) (bytes : List ℕ) → IsMapped s a → Spans p a
    → logical_met reading writing weight s p bytes ≡ record {
      slave = if writing && takes s a then with_outputs s (outputs_from a p bytes) else s;
      bytes = if reading && gives s a then inputs_into a p (inputs_of s) bytes else bytes;
      added = from_bool (reading && gives s a) + weight * from_bool (writing && takes s a);
    }
exchange_placed reading writing weight s a p bytes h c =
    let memory = overlay_own s.memory (λ q. only_if writing (plain_bit s.managers (fmmus s) p bytes q))
    (λ q l. ap (λ o. unwrap_or o (bit s.memory q)) (if_none writing _ (written_or_governed s a p bytes q h))) in
    let became = data_after s a reading p bytes h c in
    let r = some_read_is s a p h c in
    let w = some_written_is s a p bytes h c in
    rw (memory, physical_after s a reading writing p bytes h c, became, r, w) refl

-- and the whole datagram
pub exchange : ExchangeLaw
unfolding meets_logically
exchange reading writing weight s a d h c =
    ap (λ (m : MetBytes). record { slave = m.slave; datagram = with_answer d d.address m.bytes m.added }) (exchange_placed reading writing weight s a (span_of d) d.data_bytes h c)
