use Rattle.ec_frame.specs.Fields.{with_address}
use Rattle.ec_frame.specs.FieldChanges.{IsDatagram-with_address}
use Rattle.ec_frame.proofs.Writes.{address_written}
use Rattle.ec_frame.proofs.datagram.write_address.Goals as goal

pub returns-clause-written : goal.returns-clause-written
returns-clause-written c = λ more d good e. address_written c.args.part.now c.write_u32.new.buf more d c.args.address e c.write_u32.ensures

pub returns-clause-spelled : goal.returns-clause-spelled
returns-clause-spelled c =
    let r = c.requires in
    (r.0, with_address r.1 c.args.address, IsDatagram-with_address r.1 c.args.address r.2 c.ranges.address.fits, address_written c.args.part.now c.write_u32.new.buf r.0 r.1 c.args.address r.3 c.write_u32.ensures)
