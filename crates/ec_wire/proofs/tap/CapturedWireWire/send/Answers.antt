use Rattle.std.proofs.Common.{true}
use Rattle.ec_wire.proofs.NotedPayloads.{tapped_more}
use Rattle.ec_wire.proofs.tap.CapturedWireWire.send.Goals as goal

pub invariant_of-self : goal.invariant_of-self
invariant_of-self g c =
    let state = g.W.Wire.state in
    tapped_more c.self.inside.side (state c.self.inside.wire) (state c.send_on.new.wire) c.self.inside.capture c.note.new.capture
    (record { is_sent = true; time = c.note.ensures.0; payload = c.args.payload.now })
    c.self.invariant (c.send_on.ensures.done c.if-send_on.true) c.note.ensures.1
