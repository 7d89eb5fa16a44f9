use Rattle.std.proofs.Common.{refl}
use Rattle.ec_frame.specs.Fields.{with_index}
use Rattle.ec_frame.specs.Lending.{written_as}
use Rattle.ec_frame.proofs.Lending.{good}
use Rattle.ec_frame.proofs.datagrams.Datagram.set_index.Goals as goal

pub returns-clause-written : goal.returns-clause-written
returns-clause-written c = λ s h.
    let g = good c.args.self.now.frame.now c.args.self.now.span s h in
    c.put.ensures.written s (with_index s.datagram c.args.index) h (record { index = c.ranges.index.fits; address = g.address; reserved = g.reserved; irq = g.irq; data_bytes = g.data_bytes; counter = g.counter }) refl refl

pub returns-clause-some : goal.returns-clause-some
returns-clause-some c =
    let s = c.requires.0 in
    (written_as s (with_index s.datagram c.args.index), returns-clause-written c s c.requires.1)
