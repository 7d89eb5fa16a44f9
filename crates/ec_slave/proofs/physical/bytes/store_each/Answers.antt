use Rattle.std.proofs.Common.{◌≡◌, ◌+◌, length, ℕ, Option, Some, None, ◌∙◌, ap, sym, arith, slice_index}
use Rattle.ec_bits.proofs.AnyLaws.{if_true, if_false}
use Rattle.ec_slave.specs.Physical.{Window, is_stored_at}
use Rattle.ec_slave.proofs.Memory.UpdatedAlong.{updated_along, told-none, told-step, updated-along}
use Rattle.ec_slave.proofs.Memory.WindowBytes.{kept_byte, kept-inside, kept-outside}
use Rattle.ec_slave.proofs.physical.bytes.store_each.Goals as goal
use Rattle.ec_slave.proofs.physical.bytes.store_each.Goals.{then-is_stored_register, else-is_stored_register}

pub loop-i-init : goal.loop-i-init
loop-i-init c = λ ms. told-none _ _ _

pub loop-i-preserved : goal.loop-i-preserved
loop-i-preserved c = λ ms.
    let w : Window = record { from = c.args.from; bytes = c.args.bytes.now } in
    let i : ℕ = c.loop-i.i in
    let kept = c.is_stored_register.ensures ms in
    let byte : Option ℕ = Some (slice_index w.bytes i) in
    let here = kept-inside ms w i c.loop-i-test.true in
    elim c.if-is_stored_register.branch [
      | then-is_stored_register v ↦ told-step i w.from c.args.memory.now (kept_byte ms w) c.loop-i.memory _ byte (c.loop-i.invariant ms)
          (here ∙ if_true (is_stored_at ms (w.from + i)) byte None (sym kept ∙ v.if-is_stored_register.true)) v.memory-is
      | else-is_stored_register v ↦ told-step i w.from c.args.memory.now (kept_byte ms w) c.loop-i.memory _ None (c.loop-i.invariant ms)
          (here ∙ if_false (is_stored_at ms (w.from + i)) byte None (sym kept ∙ v.if-is_stored_register.false)) v.memory-is
    ]

pub returns : goal.returns
returns c = λ ms.
    let w : Window = record { from = c.args.from; bytes = c.args.bytes.now } in
    let e : c.loop-i.i ≡ length c.args.bytes.now = omega arith in
    c.loop-i.invariant ms ∙ (ap (λ n. updated_along n w.from c.args.memory.now (kept_byte ms w)) e
    ∙ updated-along (length w.bytes) w.from c.args.memory.now (kept_byte ms w) (kept-outside ms w))
