use Rattle.std.proofs.Common.{ap, refl, ℕ, List}
use Rattle.ec_frame.specs.Datagram.{is_followed, spelling}
use Rattle.ec_frame.specs.Fields.{with_irq}
use Rattle.ec_frame.specs.Lending.{overwritten, written_as}
use Rattle.ec_frame.proofs.Lending.{good}
use Rattle.ec_frame.proofs.datagrams.Datagram.set_irq.Goals as goal

pub returns-clause-written : goal.returns-clause-written
returns-clause-written c = λ s h.
    let g = good c.args.self.now.frame.now c.args.self.now.span s h in
    c.put.ensures.written s (with_irq s.datagram c.args.irq) h (record { index = g.index; address = g.address; reserved = g.reserved; irq = c.ranges.irq.fits; data_bytes = g.data_bytes; counter = g.counter }) refl (ap (λ (bs : List ℕ). overwritten (spelling (is_followed s.ahead) s.datagram) 8 bs) c.to_le_bytes.ensures)

pub returns-clause-some : goal.returns-clause-some
returns-clause-some c =
    let s = c.requires.0 in
    (written_as s (with_irq s.datagram c.args.irq), returns-clause-written c s c.requires.1)
