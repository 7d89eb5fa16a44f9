use Rattle.std.proofs.Common.{ℕ, ◌+◌, ◌*◌, ◌∙◌, ap, sym, arith}
use Rattle.ec_fmmu.specs.Applied.{LogicalSpan}
use Rattle.ec_fmmu.specs.Ranges.{is_read_from}
use Rattle.ec_fmmu.proofs.TouchLaws.{none_below_zero, one_more_false, touched_by_bit, touched_by_no_bit}
use Rattle.ec_fmmu.proofs.touching.is_touched_by_read_bits.Goals as goal

pub loop-bit-init : goal.loop-bit-init
loop-bit-init c = none_below_zero _

pub returns-then-is_read_from : goal.returns-then-is_read_from
returns-then-is_read_from c =
    let p : LogicalSpan = record { from = c.args.from; bits = c.args.bits } in
    sym (touched_by_bit c.args.fmmus.now p c.args.address c.loop-bit.bit (omega arith)
    (ap (λ (n : ℕ). is_read_from c.args.fmmus.now p (8 * n + c.loop-bit.bit)) (sym c.from.ensures) ∙ sym c.if-is_read_from.ensures))

pub loop-bit-preserved : goal.loop-bit-preserved
loop-bit-preserved c =
    let p : LogicalSpan = record { from = c.args.from; bits = c.args.bits } in
    one_more_false c.loop-bit.bit (λ j. is_read_from c.args.fmmus.now p (8 * c.args.address + j))
    (ap (λ (n : ℕ). is_read_from c.args.fmmus.now p (8 * n + c.loop-bit.bit)) (sym c.from.ensures) ∙ sym c.if-is_read_from.ensures) c.loop-bit.invariant

pub returns : goal.returns
returns c =
    let p : LogicalSpan = record { from = c.args.from; bits = c.args.bits } in
    sym (touched_by_no_bit c.args.fmmus.now p c.args.address c.loop-bit.bit (omega arith) c.loop-bit.invariant)
