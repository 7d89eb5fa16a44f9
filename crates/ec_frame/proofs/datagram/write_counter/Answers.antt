use Rattle.std.proofs.Common.{refl}
use Rattle.ec_frame.specs.Fields.{with_counter}
use Rattle.ec_frame.specs.FieldChanges.{IsDatagram-with_counter}
use Rattle.ec_frame.proofs.Writes.{counter_written}
use Rattle.ec_frame.proofs.datagram.write_counter.Goals as goal

pub returns-clause-written : goal.returns-clause-written
returns-clause-written c = λ more d good e. counter_written c.args.part.now c.write_u16.new.buf more d _ c.args.counter e refl c.write_u16.ensures

pub returns-clause-spelled : goal.returns-clause-spelled
returns-clause-spelled c =
    let r = c.requires in
    (r.0, with_counter r.1 c.args.counter, IsDatagram-with_counter r.1 c.args.counter r.2 c.ranges.counter.fits, counter_written c.args.part.now c.write_u16.new.buf r.0 r.1 _ c.args.counter r.3 refl c.write_u16.ensures)
