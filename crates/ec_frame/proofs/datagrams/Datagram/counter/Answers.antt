use Rattle.ec_frame.specs.Datagram.{is_followed}
use Rattle.ec_frame.proofs.Lending.{good}
use Rattle.ec_frame.proofs.datagrams.Datagram.counter.Goals as goal

pub returns : goal.returns
returns c = λ s h. c.read_counter.ensures (is_followed s.ahead) s.datagram (good c.args.self.now.frame.now c.args.self.now.span s h) (c.part.ensures s h)

pub read_counter-requires : goal.read_counter-requires
read_counter-requires c =
    let s = c.requires.0 in
    (is_followed s.ahead, s.datagram, good c.args.self.now.frame.now c.args.self.now.span s c.requires.1, c.part.ensures s c.requires.1)
