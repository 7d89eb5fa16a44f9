use Rattle.std.proofs.Common.{◌∙◌, ◌∷◌, ◌++◌, [], inl, inr, take, length-append, refl, sym, ap, arith}
use Rattle.ec_start.specs.Running.{is_accepted}
use Rattle.ec_wire.proofs.StartUpTurns.{foreign_none, foreign_push, kept_as}
use Rattle.ec_wire.proofs.WireCalls.{carries-lost, carries-none, carries-then, fault-from, no_fault, one_fault}
use Rattle.ec_wire.proofs.startup.exchange.Goals as goal

pub loop-init : goal.loop-init
loop-init g c = record { came = ([], carries-none _, foreign_none c.args.startup.now, refl); same = refl; kept = refl }

-- a receive was a fault
pub returns-in_default-clause-unanswered : goal.returns-in_default-clause-unanswered
returns-in_default-clause-unanswered g c = λ _.
    let b = c.loop.invariant in
    let first = g.W.Wire.state c.args.wire.now in
    let sent = g.W.Wire.state c.send_on.new.wire in
    let here = g.W.Wire.state c.loop.wire in
    let next = g.W.Wire.state c.receive_on.new.wire in
    let f = c.args.frame.now in
    let same = c.send_on.ensures.same c.if-not-send_on.false in
    let count = b.came.3 in
    let below = c.loop-test.true in
    record {
      frames = f ∷ [];
      foreign = b.came.0;
      carried = carries-lost first here next (f ∷ []) b.came.0 (carries-then first sent here (f ∷ []) [] [] b.came.0 (c.send_on.ensures.done c.if-not-send_on.false) b.came.1) c.in_default.ensures.lost;
      is_sent = inr refl;
      few = omega (arith, count, below);
      strange = b.came.2;
      lost = inl (sym (fault-from first here next (b.same ∙ same)) ∙ one_fault _ c.in_default.ensures.fault);
    }

-- the payload is the answer
pub returns-in-Accepted-clause-answered : goal.returns-in-Accepted-clause-answered
returns-in-Accepted-clause-answered g c = λ _.
    let b = c.loop.invariant in
    let first = g.W.Wire.state c.args.wire.now in
    let sent = g.W.Wire.state c.send_on.new.wire in
    let here = g.W.Wire.state c.loop.wire in
    let next = g.W.Wire.state c.receive_on.new.wire in
    let f = c.args.frame.now in
    let p = take c.in-Some.count c.receive_on.new.buffer in
    let same = b.same ∙ c.send_on.ensures.same c.if-not-send_on.false in
    let count = b.came.3 in
    let below = c.loop-test.true in
    record {
      foreign = b.came.0;
      answer = p;
      carried = carries-then first here next (f ∷ []) b.came.0 [] (p ∷ []) (carries-then first sent here (f ∷ []) [] [] b.came.0 (c.send_on.ensures.done c.if-not-send_on.false) b.came.1) c.in-Some.ensures.done;
      few = omega (arith, count, below);
      strange = b.came.2;
      kept = kept_as c.args.startup.now c.loop.startup c.take.new.self p (is_accepted c.take.result) b.kept (ap is_accepted c.in-Accepted.is) c.take.ensures;
      fine = sym (fault-from first here next same) ∙ no_fault _ c.in-Some.ensures.fault;
    }

-- it isn't
pub loop-preserved : goal.loop-preserved
loop-preserved g c =
    let b = c.loop.invariant in
    let sent = g.W.Wire.state c.send_on.new.wire in
    let here = g.W.Wire.state c.loop.wire in
    let next = g.W.Wire.state c.receive_on.new.wire in
    let p = take c.in-Some.count c.receive_on.new.buffer in
    let count = b.came.3 in
    let foreign = ap is_accepted c.in-Foreign.is in
    record {
      came = (
        b.came.0 ++ p ∷ [],
        carries-then sent here next [] b.came.0 [] (p ∷ []) b.came.1 c.in-Some.ensures.done,
        foreign_push c.args.startup.now c.loop.startup c.take.new.self b.came.0 p (is_accepted c.take.result) b.came.2 b.kept foreign c.take.ensures,
        let l = length-append b.came.0 (p ∷ []) in omega (arith, l, count),
      );
      same = c.in-Some.ensures.same ∙ b.same;
      kept = c.take.ensures.foreign foreign ∙ b.kept;
    }

-- the most payloads came
pub returns-clause-unanswered : goal.returns-clause-unanswered
returns-clause-unanswered g c = λ _.
    let b = c.loop.invariant in
    let first = g.W.Wire.state c.args.wire.now in
    let sent = g.W.Wire.state c.send_on.new.wire in
    let here = g.W.Wire.state c.loop.wire in
    let f = c.args.frame.now in
    let count = b.came.3 in
    let most = c.loop.auto.counter-end in
    let end = c.loop-test.false in
    record {
      frames = f ∷ [];
      foreign = b.came.0;
      carried = carries-then first sent here (f ∷ []) [] [] b.came.0 (c.send_on.ensures.done c.if-not-send_on.false) b.came.1;
      is_sent = inr refl;
      few = omega (arith, count, most);
      strange = b.came.2;
      lost = inr (omega (arith, count, most, end));
    }
