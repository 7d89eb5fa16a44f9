use Rattle.std.proofs.Common.{◌+◌, ◌≤◌, ◌<◌, length, not, ◌∙◌, ap, arith}
use Rattle.ec_regs.specs.Memory.{is_stored}
use Rattle.ec_slave.specs.Physical.{Window, may_write_byte, touches}
use Rattle.ec_slave.proofs.Memory.AnyBelow.{any-all}
use Rattle.std.proofs.lemmas.Bool.{or_left}
use Rattle.ec_slave.proofs.Memory.WindowBytes.{write-register, all-kept}
use Rattle.ec_slave.proofs.Memory.RegistersAfterWrite.{fmmu-stored, fmmu-kept}
use Rattle.ec_slave.proofs.physical.bytes.write_fmmus.Goals as goal

pub returns-clause-memory : goal.returns-clause-memory
returns-clause-memory c = λ ms.
    let w : Window = record { from = c.args.from; bytes = c.args.bytes.now } in
    c.store_slice.ensures ∙ all-kept ms w c.args.memory.now (λ a l h. fmmu-kept ms a (omega arith) (omega arith))

pub returns-clause-some : goal.returns-clause-some
returns-clause-some c = λ ms busy.
    let w : Window = record { from = c.args.from; bytes = c.args.bytes.now } in
    ap not c.is_empty.ensures
    ∙ any-all (length w.bytes) (λ k. may_write_byte ms busy (touches w) (w.from + k)) (λ i l.
    let low : 0x0600 ≤ w.from + i = omega arith in
    let high : w.from + i < 0x0640 = omega arith in
    write-register ms busy (touches w) (w.from + i) (omega arith) ∙ or_left (is_stored (w.from + i)) _ (fmmu-stored (w.from + i) low high))
