use Rattle.std.proofs.Common.{ℕ, [], ◌∷◌, false, take}
use Rattle.ec_wire.specs.Wires.{Carries}
use Rattle.ec_wire.proofs.Hearing.{some_here}
use Rattle.ec_wire.proofs.NotedPayloads.{tapped_more}
use Rattle.ec_wire.proofs.tap.CapturedWireWire.recv_within.Goals as goal

pub invariant_of-self-2 : goal.invariant_of-self-2
invariant_of-self-2 g c =
    let state = g.W.Wire.state in
    tapped_more c.self.inside.side (state c.self.inside.wire) (state c.listen_on.new.wire) c.self.inside.capture c.note.new.capture
    (record { is_sent = false; time = c.note.ensures.0; payload = take c.in-Ok-Some.count c.listen_on.new.buffer })
    c.self.invariant
    (some_here _ _ (λ (n : ℕ). Carries (state c.self.inside.wire) (state c.listen_on.new.wire) [] (take n c.listen_on.new.buffer ∷ [])) c.in-Ok-Some.field-0-is c.in-Ok-Some.ensures.done) c.note.ensures.1
