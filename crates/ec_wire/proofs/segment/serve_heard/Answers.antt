use Rattle.std.proofs.Common.{◌∙◌, ℕ, ◌∷◌, [], take, refl, sym, inl, inr, arith}
use Rattle.ec_wire.specs.Wires.{Carries}
use Rattle.ec_wire.proofs.WireCalls.{carries-then, fault-from, one_fault}
use Rattle.ec_wire.proofs.Hearing.{none_here, some_here}
use Rattle.ec_wire.proofs.ServedSlaves.{one_treated}
use Rattle.ec_wire.proofs.segment.serve_heard.Goals as goal

-- nothing came
pub returns-in_default-clause-quiet : goal.returns-in_default-clause-quiet
returns-in_default-clause-quiet g c =
    (none_here c.in_ok-heard.heard (Carries (g.W.Wire.state c.args.wire.now) (g.W.Wire.state c.listen_on.new.wire) [] []) c.in_default.not-Some c.in_ok-heard.ensures.none, refl, refl)

-- a frame is answered
pub returns-then-send_on-clause-done : goal.returns-then-send_on-clause-done
returns-then-send_on-clause-done g c =
    let p = take c.in-Some.count c.listen_on.new.buffer in
    let a = c.answer.new.payload in
    let start = g.W.Wire.state c.args.wire.now in
    let next = g.W.Wire.state c.listen_on.new.wire in
    let carried : Carries start next [] (p ∷ []) = some_here _ _ (λ (n : ℕ). Carries start next [] (take n c.listen_on.new.buffer ∷ [])) c.in-Some.is c.in_ok-heard.ensures.done in (
      p,
      a ∷ [],
      carries-then start next (g.W.Wire.state c.send_on.new.wire) [] (p ∷ []) (a ∷ []) [] carried (c.send_on.ensures.done c.if-send_on.true),
      one_treated (g.A.App.may_produce c.args.app.now) c.args.ring.now c.answer.new.ring p (a ∷ []) (inl (a, refl, c.answer.ensures.answered c.if-not-answer.false)),
      refl,
    )

-- what is no frame isn't answered
pub returns-then-not-answer-clause-done : goal.returns-then-not-answer-clause-done
returns-then-not-answer-clause-done g c =
    let p = take c.in-Some.count c.listen_on.new.buffer in
    let start = g.W.Wire.state c.args.wire.now in
    let next = g.W.Wire.state c.listen_on.new.wire in
    let carried : Carries start next [] (p ∷ []) = some_here _ _ (λ (n : ℕ). Carries start next [] (take n c.listen_on.new.buffer ∷ [])) c.in-Some.is c.in_ok-heard.ensures.done in
    let none = c.if-not-answer.true in
    (p, [], carried, one_treated _ c.args.ring.now c.answer.new.ring p [] (inr (c.answer.ensures.refused none, c.answer.ensures.unchanged none, refl)), refl)

-- or its answer is lost
pub returns-else-send_on-clause-cut : goal.returns-else-send_on-clause-cut
returns-else-send_on-clause-cut g c failed =
    let p = take c.in-Some.count c.listen_on.new.buffer in
    let a = c.answer.new.payload in
    let start = g.W.Wire.state c.args.wire.now in
    let next = g.W.Wire.state c.listen_on.new.wire in
    let carried : Carries start next [] (p ∷ []) = some_here _ _ (λ (n : ℕ). Carries start next [] (take n c.listen_on.new.buffer ∷ [])) c.in-Some.is c.in_ok-heard.ensures.done in
    record {
      got = p ∷ [];
      sent = [];
      lost = a ∷ [];
      carried = carries-then start next (g.W.Wire.state c.send_on.new.wire) [] (p ∷ []) [] [] carried (c.send_on.ensures.lost c.if-send_on.false);
      treated = one_treated (g.A.App.may_produce c.args.app.now) c.args.ring.now c.answer.new.ring p (a ∷ []) (inl (a, refl, c.answer.ensures.answered c.if-not-answer.false));
      one_lost = omega arith;
      few = omega arith;
      answers = refl;
      others = refl;
      fault = sym (fault-from start next (g.W.Wire.state c.send_on.new.wire) c.in_ok-heard.ensures.same) ∙ one_fault _ (sym c.if-send_on.false ∙ c.send_on.ensures.fault);
    }
