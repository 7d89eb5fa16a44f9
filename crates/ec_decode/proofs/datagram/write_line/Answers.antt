use Rattle.std.proofs.lemmas.Result.{on_ok_weaker}
use Rattle.ec_decode.specs.Standing.{datagram_of}
use Rattle.ec_decode.proofs.Lines.{line_of_parts}
use Rattle.ec_decode.proofs.datagram.write_line.Goals as goal

pub returns : goal.returns
returns c =
    on_ok_weaker c.write_tail.result
    (line_of_parts (datagram_of c.args.header.now c.args.counter c.args.content.now) c.args.number _ _ _ _ _ _ _ c.in_ok-write_head.ensures c.in_ok-write_address.ensures c.in_ok-write_irq.ensures c.in_ok-write_reserved.ensures c.in_ok-write_circulating.ensures)
    c.write_tail.ensures
