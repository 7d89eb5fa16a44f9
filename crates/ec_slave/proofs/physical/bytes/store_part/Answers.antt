use Rattle.std.proofs.Common.{ℕ, ◌-◌, ◌≡◌, ◌∙◌, sym, inl, inr, length, slice_index, Option, Some, None, true, if◌then◌else◌}
use Rattle.std.proofs.lemmas.Bool.{cases_Bool}
use Rattle.ec_bits.specs.Bits.{within}
use Rattle.ec_bits.proofs.AnyLaws.{if_true, if_false, within_parts}
use Rattle.ec_slave.specs.Physical.{is_stored_at}
use Rattle.ec_slave.proofs.Memory.UpdatedAlong.{updated-alike, updated-none}
use Rattle.ec_slave.proofs.physical.bytes.store_part.Goals as goal

pub returns-then-is_stored_at : goal.returns-then-is_stored_at
returns-then-is_stored_at c = λ ms owner alike.
    let start = c.args.start in
    let bytes = c.args.bytes.now in
    let n : ℕ = length bytes in
    let all : ℕ → Option ℕ = λ a. if within start n a then Some (slice_index bytes (a - start)) else None in
    let kept : ℕ → Option ℕ = λ a. if within start n a then (if is_stored_at ms a then Some (slice_index bytes (a - start)) else None) else None in
    c.store_slice.ensures ∙ updated-alike c.args.memory.now all kept (λ a. elim (cases_Bool (within start n a)) [
      | inl t ↦
          let w = within_parts start n a t in
          let it : is_stored_at ms a ≡ true = alike a w.0 w.1 ∙ (sym (c.is_stored_at.ensures.value ms owner) ∙ c.if-is_stored_at.true) in
          if_true (within start n a) (Some (slice_index bytes (a - start))) None t
          ∙ sym (if_true (within start n a) (if is_stored_at ms a then Some (slice_index bytes (a - start)) else None) None t
          ∙ if_true (is_stored_at ms a) (Some (slice_index bytes (a - start))) None it)
      | inr f ↦ if_false (within start n a) (Some (slice_index bytes (a - start))) None f
          ∙ sym (if_false (within start n a) (if is_stored_at ms a then Some (slice_index bytes (a - start)) else None) None f)
    ])

pub returns-else-is_stored_at : goal.returns-else-is_stored_at
returns-else-is_stored_at c = λ ms owner alike.
    let start = c.args.start in
    let bytes = c.args.bytes.now in
    let n : ℕ = length bytes in
    updated-none c.args.memory.now _ (λ a l. elim (cases_Bool (within start n a)) [
      | inl t ↦
          let w = within_parts start n a t in
          if_true (within start n a) (if is_stored_at ms a then Some (slice_index bytes (a - start)) else None) None t
          ∙ if_false (is_stored_at ms a) (Some (slice_index bytes (a - start))) None (alike a w.0 w.1 ∙ (sym (c.is_stored_at.ensures.value ms owner) ∙ c.if-is_stored_at.false))
      | inr f ↦ if_false (within start n a) (if is_stored_at ms a then Some (slice_index bytes (a - start)) else None) None f
    ])
