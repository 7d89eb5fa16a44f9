use Rattle.ec_frame.specs.Fields.{with_adp}
use Rattle.ec_frame.specs.FieldChanges.{IsDatagram-with_adp}
use Rattle.ec_frame.proofs.Writes.{adp_written}
use Rattle.ec_frame.proofs.datagram.write_adp.Goals as goal

pub returns-clause-written : goal.returns-clause-written
returns-clause-written c = λ more d good e. adp_written c.args.part.now c.write_u16.new.buf more d c.args.adp good c.ranges.adp.fits e c.write_u16.ensures

pub returns-clause-spelled : goal.returns-clause-spelled
returns-clause-spelled c =
    let r = c.requires in
    (r.0, with_adp r.1 c.args.adp, IsDatagram-with_adp r.1 c.args.adp r.2 c.ranges.adp.fits, adp_written c.args.part.now c.write_u16.new.buf r.0 r.1 c.args.adp r.2 c.ranges.adp.fits r.3 c.write_u16.ensures)
