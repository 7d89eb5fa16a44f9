use Rattle.std.proofs.Common.{◌∙◌, ◌++◌, ◌+◌, ◌∷◌, [], refl, arith, length-append}
use Rattle.ec_wire.proofs.WireCalls.{carries-none}
use Rattle.ec_wire.proofs.ServedSlaves.{cut_then, treat_next}
use Rattle.ec_wire.proofs.segment.serve_coming.Goals as goal

pub loop-init : goal.loop-init
loop-init g c = record { came = ([], [], carries-none _, (refl, refl), refl, refl); counts = refl; same = refl; later = λ o i h. h }

-- a fault at the next payload
pub returns-in-Err-clause-cut : goal.returns-in-Err-clause-cut
returns-in-Err-clause-cut g c =
    let b = c.loop.invariant in (
      c.loop.counter + 1,
      cut_then (g.A.App.may_produce c.args.app.now) (g.A.App.may_produce c.loop.app) c.args.ring.now c.loop.ring c.serve_heard.new.ring
          (g.W.Wire.state c.args.wire.now) (g.W.Wire.state c.loop.wire) (g.W.Wire.state c.serve_heard.new.wire) b.came.0 b.came.1 c.loop.counter (c.loop.counter + 1) c.loop.served.answered c.loop.served.refused
          b.later b.came.2 b.came.3 b.came.4 b.came.5 b.counts (omega arith) b.same (c.in-Err.ensures.cut refl),
    )

-- one payload more
pub loop-preserved : goal.loop-preserved
loop-preserved g c =
    let b = c.loop.invariant in
    let d = rw c.in-Ok-Some.field-0-is at c.in-Ok-Some.ensures.done in
    let k = treat_next (g.A.App.may_produce c.args.app.now) (g.A.App.may_produce c.loop.app) c.args.ring.now c.loop.ring c.serve_heard.new.ring
    (g.W.Wire.state c.args.wire.now) (g.W.Wire.state c.loop.wire) (g.W.Wire.state c.serve_heard.new.wire) b.came.0 (d.0 ∷ []) b.came.1 d.1
    b.later b.came.2 b.came.3 d.2 d.3 in
    let was = b.came.4 in
    let sent = b.came.5 in
    let one = d.4 in
    let counts = b.counts in
    let answered = c.count.ensures.answered in
    let all = c.count.ensures.all in
    record {
      came = (
        b.came.0 ++ d.0 ∷ [],
        b.came.1 ++ d.1,
        k.0,
        k.1,
        let l = length-append b.came.0 (d.0 ∷ []) in omega (arith, l, was),
        let l = length-append b.came.1 d.1 in omega (arith, l, sent, one, answered),
      );
      counts = omega (arith, all, counts);
      same = c.in-Ok-Some.ensures.same ∙ b.same;
      later = λ o i h. b.later o i (c.in-Ok-Some.ensures.later o i h);
    }
