use Rattle.ec_frame.proofs.Lending.{room, spelled}
use Rattle.ec_frame.proofs.datagrams.Datagram.part.Goals as goal

pub slice_bounds-result-end : goal.slice_bounds-result-end
slice_bounds-result-end c = room c.args.self.now.frame.now c.args.self.now.span c.requires.0 c.requires.1

pub returns : goal.returns
returns c = λ s h. spelled c.args.self.now.frame.now c.args.self.now.span s h
