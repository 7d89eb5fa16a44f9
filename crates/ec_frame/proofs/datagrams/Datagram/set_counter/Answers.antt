use Rattle.std.proofs.Common.{refl}
use Rattle.ec_frame.specs.Datagram.{is_followed}
use Rattle.ec_frame.specs.Fields.{with_counter}
use Rattle.ec_frame.specs.FieldChanges.{IsDatagram-with_counter}
use Rattle.ec_frame.specs.Lending.{written_as}
use Rattle.ec_frame.proofs.Lending.{good, counter_over}
use Rattle.ec_frame.proofs.datagrams.Datagram.set_counter.Goals as goal

pub returns-clause-written : goal.returns-clause-written
returns-clause-written c = λ s h.
    let g = good c.args.self.now.frame.now c.args.self.now.span s h in
    c.put.ensures.written s (with_counter s.datagram c.args.counter) h (IsDatagram-with_counter s.datagram c.args.counter g c.ranges.counter.fits) refl
    (counter_over (is_followed s.ahead) s.datagram c.part.result.now _ c.args.counter (c.part.ensures s h) c.to_le_bytes.ensures)

pub returns-clause-some : goal.returns-clause-some
returns-clause-some c =
    let s = c.requires.0 in
    (written_as s (with_counter s.datagram c.args.counter), returns-clause-written c s c.requires.1)
