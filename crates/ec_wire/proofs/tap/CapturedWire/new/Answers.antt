use Rattle.ec_wire.proofs.NotedPayloads.{tapped_new}
use Rattle.ec_wire.proofs.tap.CapturedWire.new.Goals as goal

pub invariant_of-result : goal.invariant_of-result
invariant_of-result g c = tapped_new c.args.side (g.W.Wire.state c.args.wire) c.args.capture c.requires.sent c.requires.received
