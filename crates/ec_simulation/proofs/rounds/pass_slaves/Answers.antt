use Rattle.std.proofs.Common.{◌∙◌, sym}
use Rattle.ec_world.specs.declared.event.Event.TheVariants.{Pass}
use Rattle.ec_simulation.proofs.Making.{once_more, stopped_at}
use Rattle.ec_simulation.proofs.Seeing.{observes_then}
use Rattle.ec_simulation.proofs.rounds.pass_slaves.Goals as goal

pub returns-then-not-is_done-clause-made : goal.returns-then-not-is_done-clause-made
returns-then-not-is_done-clause-made g c =
    stopped_at (Pass c.args.slot) c.args.slaves c.loop.counter c.args.world.now c.loop.world c.make-said.new.world c.loop.said c.make-said.result c.loop-test.true
    c.loop.invariant.made c.loop.invariant.going c.make-said.ensures.made (sym c.is_done.ensures ∙ c.if-not-is_done.true)

pub loop-preserved : goal.loop-preserved
loop-preserved g c = record {
  made = once_more (Pass c.args.slot) c.loop.counter c.args.world.now c.loop.world c.make-said.new.world c.loop.said c.make-said.result c.loop.invariant.made c.loop.invariant.going c.make-said.ensures.made;
  going = sym c.is_done.ensures ∙ c.if-not-is_done.false;
  seen = observes_then g.S.Watcher.observed c.args.watcher.now c.loop.watcher c.make-said.new.watcher c.args.world.now c.loop.world c.make-said.new.world c.loop.invariant.seen c.make-said.ensures.observed;
}
