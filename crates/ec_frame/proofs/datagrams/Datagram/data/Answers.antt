use Rattle.std.proofs.Common.{length, ap, arith}
use Rattle.ec_frame.specs.Datagram.{is_followed}
use Rattle.ec_frame.proofs.Lending.{good}
use Rattle.ec_frame.proofs.datagrams.Datagram.data.Goals as goal

pub returns-clause-value : goal.returns-clause-value
returns-clause-value c = λ s h. c.read_data.ensures (is_followed s.ahead) s.datagram (good c.args.self.now.frame.now c.args.self.now.span s h) (c.part.ensures s h)

pub read_data-requires : goal.read_data-requires
read_data-requires c =
    let s = c.requires.0 in
    (is_followed s.ahead, s.datagram, good c.args.self.now.frame.now c.args.self.now.span s c.requires.1, c.part.ensures s c.requires.1)

pub returns-clause-room : goal.returns-clause-room
returns-clause-room c =
    let s = c.requires.0 in
    let h = c.requires.1 in
    let to = h.to in
    omega (arith, to, ap length (c.read_data.ensures (is_followed s.ahead) s.datagram (good c.args.self.now.frame.now c.args.self.now.span s h) (c.part.ensures s h)))
