use Rattle.std.proofs.Common.{◌∙◌, sym}
use Rattle.ec_simulation.proofs.Making.{serve_more, serve_stopped}
use Rattle.ec_simulation.proofs.Seeing.{observes_then}
use Rattle.ec_simulation.proofs.rounds.serve_slaves.Goals as goal

pub returns-then-not-is_done-clause-made : goal.returns-then-not-is_done-clause-made
returns-then-not-is_done-clause-made g c =
    serve_stopped c.args.slaves c.loop-slave.slave c.args.world.now c.loop-slave.world c.make-said.new.world c.loop-slave.said c.make-said.result c.loop-slave-test.true
    c.loop-slave.invariant.made c.loop-slave.invariant.going c.make-said.ensures.made (sym c.is_done.ensures ∙ c.if-not-is_done.true)

pub loop-slave-preserved : goal.loop-slave-preserved
loop-slave-preserved g c = record {
  made = serve_more c.loop-slave.slave c.args.world.now c.loop-slave.world c.make-said.new.world c.loop-slave.said c.make-said.result c.loop-slave.invariant.made c.loop-slave.invariant.going c.make-said.ensures.made;
  going = sym c.is_done.ensures ∙ c.if-not-is_done.false;
  seen = observes_then g.S.Watcher.observed c.args.watcher.now c.loop-slave.watcher c.make-said.new.watcher c.args.world.now c.loop-slave.world c.make-said.new.world c.loop-slave.invariant.seen c.make-said.ensures.observed;
}
