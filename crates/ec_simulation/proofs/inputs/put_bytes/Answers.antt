use Rattle.std.proofs.Common.{◌∙◌, refl, sym}
use Rattle.ec_simulation.proofs.InputPuts.{none_yet, put_all, put_more, put_stopped}
use Rattle.ec_simulation.proofs.Seeing.{observes_none, observes_then}
use Rattle.ec_simulation.proofs.inputs.put_bytes.Goals as goal

pub loop-offset-init : goal.loop-offset-init
loop-offset-init g c = record {
  made = none_yet c.args.slave c.args.bytes.now c.args.world.now;
  going = refl;
  seen = observes_none g.S.Watcher.observed c.args.watcher.now c.args.world.now;
}

pub returns-then-not-is_done-clause-made : goal.returns-then-not-is_done-clause-made
returns-then-not-is_done-clause-made g c =
    put_stopped c.args.slave c.args.bytes.now c.loop-offset.offset c.args.world.now c.loop-offset.world c.make-said.new.world c.loop-offset.said c.make-said.result c.loop-offset-test.true
    c.loop-offset.invariant.made c.loop-offset.invariant.going c.make-said.ensures.made (sym c.is_done.ensures ∙ c.if-not-is_done.true)

pub loop-offset-preserved : goal.loop-offset-preserved
loop-offset-preserved g c = record {
  made = put_more c.args.slave c.args.bytes.now c.loop-offset.offset c.args.world.now c.loop-offset.world c.make-said.new.world c.loop-offset.said c.make-said.result c.loop-offset-test.true
      c.loop-offset.invariant.made c.loop-offset.invariant.going c.make-said.ensures.made;
  going = sym c.is_done.ensures ∙ c.if-not-is_done.false;
  seen = observes_then g.S.Watcher.observed c.args.watcher.now c.loop-offset.watcher c.make-said.new.watcher c.args.world.now c.loop-offset.world c.make-said.new.world c.loop-offset.invariant.seen c.make-said.ensures.observed;
}

pub returns-clause-made : goal.returns-clause-made
returns-clause-made g c = put_all c.args.slave c.args.bytes.now c.loop-offset.offset c.args.world.now c.loop-offset.world c.loop-offset.said c.loop-offset-test.false c.loop-offset.invariant.made
