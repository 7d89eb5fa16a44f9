use Rattle.std.proofs.Common.{false, take}
use Rattle.ec_wire.proofs.NotedPayloads.{tapped_more}
use Rattle.ec_wire.proofs.tap.CapturedWireWire.recv.Goals as goal

pub invariant_of-self-2 : goal.invariant_of-self-2
invariant_of-self-2 g c =
    let state = g.W.Wire.state in
    tapped_more c.self.inside.side (state c.self.inside.wire) (state c.receive_on.new.wire) c.self.inside.capture c.note.new.capture
    (record { is_sent = false; time = c.note.ensures.0; payload = take c.in-Some.count c.receive_on.new.buffer })
    c.self.invariant c.in-Some.ensures.done c.note.ensures.1
