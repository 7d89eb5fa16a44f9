use Rattle.std.proofs.Common.{◌∙◌, ◌++◌, ◌∷◌, [], refl, arith, length-append}
use Rattle.ec_wire.proofs.WireCalls.{carries-none}
use Rattle.ec_wire.proofs.ServedSlaves.{cut_then, treat_next}
use Rattle.ec_wire.proofs.segment.serve_payloads.Goals as goal

pub loop-init : goal.loop-init
loop-init g c = record { came = ([], [], carries-none _, (refl, refl), refl, refl); counts = refl; same = refl; later = λ o i h. h }

pub returns-in_default-clause-cut : goal.returns-in_default-clause-cut
returns-in_default-clause-cut g c =
    let b = c.loop.invariant in
    cut_then (g.A.App.may_produce c.args.app.now) (g.A.App.may_produce c.loop.app) c.args.ring.now c.loop.ring c.serve_payload.new.ring
    (g.W.Wire.state c.args.wire.now) (g.W.Wire.state c.loop.wire) (g.W.Wire.state c.serve_payload.new.wire) b.came.0 b.came.1 c.loop.counter c.args.frames c.loop.served.answered c.loop.served.refused
    b.later b.came.2 b.came.3 b.came.4 b.came.5 b.counts c.loop-test.true b.same c.in_default.ensures.cut

pub loop-preserved : goal.loop-preserved
loop-preserved g c =
    let b = c.loop.invariant in
    let d = c.in-Some.ensures.done in
    let k = treat_next (g.A.App.may_produce c.args.app.now) (g.A.App.may_produce c.loop.app) c.args.ring.now c.loop.ring c.serve_payload.new.ring
    (g.W.Wire.state c.args.wire.now) (g.W.Wire.state c.loop.wire) (g.W.Wire.state c.serve_payload.new.wire) b.came.0 (d.0 ∷ []) b.came.1 d.1
    b.later b.came.2 b.came.3 d.2 d.3 in
    let was = b.came.4 in
    let sent = b.came.5 in
    let one = d.4 in
    let counts = b.counts in
    let answered = c.count.ensures.answered in
    let all = c.count.ensures.all in
    record {
      came = (
        b.came.0 ++ d.0 ∷ [],
        b.came.1 ++ d.1,
        k.0,
        k.1,
        let l = length-append b.came.0 (d.0 ∷ []) in omega (arith, l, was),
        let l = length-append b.came.1 d.1 in omega (arith, l, sent, one, answered),
      );
      counts = omega (arith, all, counts);
      same = c.in-Some.ensures.same ∙ b.same;
      later = λ o i h. b.later o i (c.in-Some.ensures.later o i h);
    }

pub returns-clause-served : goal.returns-clause-served
returns-clause-served g c =
    let b = c.loop.invariant in
    let end = c.loop-test.false in
    let most = c.loop.auto.counter-end in
    let count = b.came.4 in
    let sent = b.came.5 in
    let counts = b.counts in
    record {
      got = b.came.0;
      sent = b.came.1;
      carried = b.came.2;
      treated = b.came.3;
      all = omega (arith, count, end, most);
      answers = omega (arith, sent);
      others = omega (arith, counts, end, most);
    }
