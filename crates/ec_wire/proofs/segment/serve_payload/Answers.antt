use Rattle.std.proofs.Common.{◌∙◌, ◌∷◌, [], take, refl, sym, inl, arith}
use Rattle.ec_wire.proofs.WireCalls.{carries-then, fault-from, one_fault}
use Rattle.ec_wire.proofs.ServedSlaves.{one_treated}
use Rattle.ec_wire.proofs.segment.serve_payload.Goals as goal

-- a frame is answered
pub returns-then-send_on-clause-done : goal.returns-then-send_on-clause-done
returns-then-send_on-clause-done g c =
    let p = take c.in_ok-count.count c.receive_on.new.buffer in
    let a = c.answer.new.payload in (
      p,
      a ∷ [],
      carries-then (g.W.Wire.state c.args.wire.now) (g.W.Wire.state c.receive_on.new.wire) (g.W.Wire.state c.send_on.new.wire) [] (p ∷ []) (a ∷ []) []
          c.in_ok-count.ensures.done (c.send_on.ensures.done c.if-send_on.true),
      one_treated (g.A.App.may_produce c.args.app.now) c.args.ring.now c.answer.new.ring p (a ∷ []) (inl (a, refl, c.answer.ensures.answered c.if-not-answer.false)),
      refl,
    )

-- or its answer is lost
pub returns-else-send_on-clause-cut : goal.returns-else-send_on-clause-cut
returns-else-send_on-clause-cut g c =
    let p = take c.in_ok-count.count c.receive_on.new.buffer in
    let a = c.answer.new.payload in
    record {
      got = p ∷ [];
      sent = [];
      lost = a ∷ [];
      carried = carries-then (g.W.Wire.state c.args.wire.now) (g.W.Wire.state c.receive_on.new.wire) (g.W.Wire.state c.send_on.new.wire) [] (p ∷ []) [] []
          c.in_ok-count.ensures.done (c.send_on.ensures.lost c.if-send_on.false);
      treated = one_treated (g.A.App.may_produce c.args.app.now) c.args.ring.now c.answer.new.ring p (a ∷ []) (inl (a, refl, c.answer.ensures.answered c.if-not-answer.false));
      one_lost = omega arith;
      few = omega arith;
      answers = refl;
      others = refl;
      fault = sym (fault-from (g.W.Wire.state c.args.wire.now) (g.W.Wire.state c.receive_on.new.wire) (g.W.Wire.state c.send_on.new.wire) c.in_ok-count.ensures.same) ∙ one_fault _ (sym c.if-send_on.false ∙ c.send_on.ensures.fault);
    }
