use Rattle.std.proofs.Common.{◌≡◌, ◌+◌, length, ℕ, Option, not, refl, ◌∙◌, ◌==◌, sym, ap, arith}
use Rattle.ec_slave.specs.State.{SlaveState}
use Rattle.ec_slave.specs.Physical.{Window, byte_read, may_read_byte, touches}
use Rattle.ec_slave.proofs.Memory.AnyBelow.{any-all}
use Rattle.ec_slave.proofs.Memory.UpdatedAlong.{updated_along, told-none, told-step0, updated-whole}
use Rattle.ec_slave.proofs.Memory.WindowBytes.{read-given, read-register}
use Rattle.ec_slave.proofs.slave.Slave.read_registers.Goals as goal

pub loop-i-init : goal.loop-i-init
loop-i-init c = told-none _ _ _

pub loop-i-preserved : goal.loop-i-preserved
loop-i-preserved c =
    let w : Window = record { from = c.args.from; bytes = c.args.bytes.now } in
    let s : SlaveState = c.args.self.now in
    let i : ℕ = c.loop-i.i in
    let f : ℕ → Option ℕ = byte_read s c.args.joining w in
    told-step0 i _ f c.loop-i.bytes _ _ c.loop-i.invariant
    (read-given s c.args.joining w i c.loop-i.bytes _ _ (read-register s.managers (touches w) (w.from + i) (omega arith)) c.loop-i.invariant c.register-visible.ensures c.read_over.ensures) refl

pub returns-clause-bytes : goal.returns-clause-bytes
returns-clause-bytes c =
    let w : Window = record { from = c.args.from; bytes = c.args.bytes.now } in
    let e : c.loop-i.i ≡ length c.args.bytes.now = omega arith in
    c.loop-i.invariant ∙ (ap (λ n. updated_along n 0 c.args.bytes.now (byte_read c.args.self.now c.args.joining w)) e ∙ updated-whole c.args.bytes.now _)

pub returns-clause-some : goal.returns-clause-some
returns-clause-some c =
    let w : Window = record { from = c.args.from; bytes = c.args.bytes.now } in
    let ms = c.args.self.now.managers in
    ap not c.is_empty-is_some.ensures
    ∙ any-all (length w.bytes) (λ k. may_read_byte ms (touches w) (w.from + k)) (λ i l. read-register ms (touches w) (w.from + i) (omega arith))

pub returns-then-bytes-eq2-clause-some : goal.returns-then-bytes-eq2-clause-some
returns-then-bytes-eq2-clause-some c =
    let w : Window = record { from = c.args.from; bytes = c.args.bytes.now } in
    let ms = c.args.self.now.managers in
    ap (λ n. not (n == 0)) (sym c.if-bytes-eq2.true)
    ∙ any-all (length w.bytes) (λ k. may_read_byte ms (touches w) (w.from + k)) (λ i l. read-register ms (touches w) (w.from + i) (omega arith))
