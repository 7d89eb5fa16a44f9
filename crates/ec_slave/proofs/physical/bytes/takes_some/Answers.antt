use Rattle.std.proofs.Common.{◌≡◌, ◌+◌, ◌<◌, length, ℕ, Bool, ◌∙◌, ap, sym, arith}
use Rattle.ec_bits.specs.Bits.{any_below, within}
use Rattle.ec_bits.proofs.AnyLaws.{any_below_from, any_below_none}
use Rattle.ec_fmmu.proofs.TouchLaws.{one_more_false}
use Rattle.ec_regs.specs.Memory.{ram_start}
use Rattle.ec_slave.specs.Physical.{may_write_byte}
use Rattle.ec_slave.proofs.Memory.WindowBytes.{write-register}
use Rattle.ec_slave.proofs.physical.bytes.takes_some.Goals as goal

pub loop-i-init : goal.loop-i-init
loop-i-init c = λ ms. any_below_none 0 _ (λ i l. absurd (omega arith))

pub loop-i-preserved : goal.loop-i-preserved
loop-i-preserved c = λ ms.
    let touched : ℕ → Bool = within c.args.from (length c.args.bytes.now) in
    let register : c.args.from + c.loop-i.i < ram_start = omega arith in
    one_more_false c.loop-i.i (λ k. may_write_byte ms c.args.is_busy touched (c.args.from + k))
    (write-register ms c.args.is_busy touched (c.args.from + c.loop-i.i) register ∙ (sym c.takes_writes.ensures ∙ c.if-takes_writes.false)) (c.loop-i.invariant ms)

pub returns-then-takes_writes : goal.returns-then-takes_writes
returns-then-takes_writes c = λ ms.
    let touched : ℕ → Bool = within c.args.from (length c.args.bytes.now) in
    let register : c.args.from + c.loop-i.i < ram_start = omega arith in
    sym (any_below_from (length c.args.bytes.now) (λ k. may_write_byte ms c.args.is_busy touched (c.args.from + k)) c.loop-i.i (omega arith)
    (write-register ms c.args.is_busy touched (c.args.from + c.loop-i.i) register ∙ (sym c.takes_writes.ensures ∙ c.if-takes_writes.true)))

pub returns : goal.returns
returns c = λ ms.
    let e : c.loop-i.i ≡ length c.args.bytes.now = omega arith in
    sym (c.loop-i.invariant ms) ∙ ap (λ n. any_below n (λ k. may_write_byte ms c.args.is_busy (within c.args.from (length c.args.bytes.now)) (c.args.from + k))) e
