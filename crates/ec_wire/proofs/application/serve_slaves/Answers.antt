use Rattle.std.proofs.Common.{refl, arith}
use Rattle.ec_wire.proofs.ServedSlaves.{all_served, serve_next}
use Rattle.ec_wire.proofs.application.serve_slaves.Goals as goal

-- one slave more
pub loop-index-preserved : goal.loop-index-preserved
loop-index-preserved g c =
    let before = c.loop-index.invariant in
    let here = c.loop-index-test.true in
    let end = before.end in
    let count = before.below.count in
    record {
      below = serve_next (g.A.App.may_produce c.args.app.now) (g.A.App.may_produce c.loop-index.app) c.args.ring.now c.loop-index.ring _ c.loop-index.index c.slave_mut.result.now c.serve_slave.new.slave
          before.later before.below (omega (arith, here, end, count)) c.slave_mut.ensures.value c.serve_slave.ensures.served refl;
      later = λ o i h. before.later o i (c.serve_slave.ensures.later o i h);
      end = end;
    }

pub returns-clause-served : goal.returns-clause-served
returns-clause-served g c =
    let end = c.loop-index.invariant.end in
    let done = c.loop-index-test.false in
    all_served (g.A.App.may_produce c.args.app.now) c.args.ring.now c.loop-index.ring c.loop-index.index c.loop-index.invariant.below (omega (arith, end, done))
