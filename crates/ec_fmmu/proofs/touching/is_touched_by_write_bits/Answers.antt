use Rattle.std.proofs.Common.{ℕ, ◌+◌, ◌*◌, ◌≡◌, ◌∙◌, ap, sym, arith, is_some}
use Rattle.ec_bits.specs.Bits.{any_below}
use Rattle.ec_bits.proofs.AnyLaws.{any_below_from}
use Rattle.ec_fmmu.specs.Applied.{LogicalSpan, data_bit_for}
use Rattle.ec_fmmu.proofs.TouchLaws.{none_below_zero, one_more_false}
use Rattle.ec_fmmu.proofs.touching.is_touched_by_write_bits.Goals as goal

pub loop-bit-init : goal.loop-bit-init
loop-bit-init c = none_below_zero _

pub returns-then-is_bit_written : goal.returns-then-is_bit_written
returns-then-is_bit_written c =
    let p : LogicalSpan = record { from = c.args.from; bits = c.args.bits } in
    sym (any_below_from 8 (λ j. is_some (data_bit_for c.args.fmmus.now p (8 * c.args.address + j))) c.loop-bit.bit (omega arith) (ap (λ (n : ℕ). is_some (data_bit_for c.args.fmmus.now p (8 * n + c.loop-bit.bit))) (sym c.from.ensures) ∙ sym c.if-is_bit_written.ensures))

pub loop-bit-preserved : goal.loop-bit-preserved
loop-bit-preserved c =
    let p : LogicalSpan = record { from = c.args.from; bits = c.args.bits } in
    one_more_false c.loop-bit.bit (λ j. is_some (data_bit_for c.args.fmmus.now p (8 * c.args.address + j))) (ap (λ (n : ℕ). is_some (data_bit_for c.args.fmmus.now p (8 * n + c.loop-bit.bit))) (sym c.from.ensures) ∙ sym c.if-is_bit_written.ensures) c.loop-bit.invariant

pub returns : goal.returns
returns c =
    let p : LogicalSpan = record { from = c.args.from; bits = c.args.bits } in
    let end : c.loop-bit.bit ≡ 8 = omega arith in
    sym (ap (λ (n : ℕ). any_below n (λ j. is_some (data_bit_for c.args.fmmus.now p (8 * c.args.address + j)))) (sym end) ∙ c.loop-bit.invariant)
