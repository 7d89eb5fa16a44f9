use Rattle.std.proofs.Common.{arith}
use Rattle.ec_frame.proofs.Lending.{put, put_bytes, room, rewritten, spelled}
use Rattle.ec_frame.proofs.Numbers.{all_bytes}
use Rattle.ec_frame.proofs.datagrams.Datagram.put.Goals as goal

pub slice_bounds-part-end : goal.slice_bounds-part-end
slice_bounds-part-end c = room c.args.self.now.frame.now c.args.self.now.span c.requires.0 c.requires.1

pub returns-clause-written : goal.returns-clause-written
returns-clause-written c = λ s e h fine same is.
    let over = c.copy_from_slice.ensures.after in
    rewritten c.args.self.now.frame.now c.args.self.now.span s e _ h fine same
    (put _ _ c.args.bytes.now _ _ c.args.at (spelled c.args.self.now.frame.now c.args.self.now.span s h) over is)
    (put_bytes c.args.self.now.frame.now _ c.args.bytes.now _ _ _ _ h.frame.bytes over (all_bytes c.args.bytes.now (λ i. omega (arith, c.type_inv.bytes i))))
