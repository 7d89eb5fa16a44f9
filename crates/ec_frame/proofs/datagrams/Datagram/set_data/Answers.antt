use Rattle.std.proofs.Common.{◌≡◌, length, arith}
use Rattle.ec_frame.specs.Datagram.{is_followed}
use Rattle.ec_frame.specs.Fields.{with_data}
use Rattle.ec_frame.specs.FieldChanges.{IsDatagram-with_data}
use Rattle.ec_frame.specs.Lending.{written_as}
use Rattle.ec_frame.proofs.Lending.{good, data_over}
use Rattle.ec_frame.proofs.datagrams.Datagram.set_data.Goals as goal

pub returns-clause-written : goal.returns-clause-written
returns-clause-written c = λ s h.
    let g = good c.args.self.now.frame.now c.args.self.now.span s h in
    let same : length c.args.content.now ≡ length s.datagram.data_bytes = omega (arith, h.to, c.requires.same_length) in
    c.put.ensures.written s (with_data s.datagram c.args.content.now) h (IsDatagram-with_data s.datagram c.args.content.now g same) same (data_over (is_followed s.ahead) s.datagram c.args.content.now same)

pub returns-clause-some : goal.returns-clause-some
returns-clause-some c =
    let s = c.requires.lent.0 in
    (written_as s (with_data s.datagram c.args.content.now), returns-clause-written c s c.requires.lent.1)

pub put-requires : goal.put-requires
put-requires c = (c.requires.lent.0, c.requires.lent.1, omega (arith, c.requires.lent.1.to, c.requires.same_length))
