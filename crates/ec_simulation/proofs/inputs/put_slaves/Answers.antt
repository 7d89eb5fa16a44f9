use Rattle.std.proofs.Common.{◌≡◌, ◌∙◌, ◌<◌, ℕ, length, sym, ap, subst, arith}
use Rattle.ec_link.specs.Plan.{PlanState}
use Rattle.ec_simulation.proofs.InputPuts.{all_written, next_written, none_written, written_stopped}
use Rattle.ec_simulation.proofs.Seeing.{observes_none, observes_then}
use Rattle.ec_simulation.proofs.inputs.put_slaves.Goals as goal

pub loop-slave-init : goal.loop-slave-init
loop-slave-init g c = record {
  written = none_written c.args.variable c.args.value c.args.world.now;
  seen = observes_none g.S.Watcher.observed c.args.watcher.now c.args.world.now;
}

pub returns-then-not-is_done-clause-made : goal.returns-then-not-is_done-clause-made
returns-then-not-is_done-clause-made g c =
    let count : length c.slaves-slaves.result.now ≡ length c.args.world.now.plan.slaves = ap length c.slaves-slaves.ensures.value ∙ ap (λ (p : PlanState). length p.slaves) c.plan.ensures.value in
    written_stopped c.args.variable c.args.value c.args.world.now (length c.args.world.now.plan.slaves) c.loop-slave.slave c.loop-slave.world c.put_slave-said.new.world c.put_slave-said.result
    c.loop-slave.invariant.written (subst (λ (n : ℕ). c.loop-slave.slave < n) count c.loop-slave-test.true) c.put_slave-said.ensures.made (sym c.is_done.ensures ∙ c.if-not-is_done.true)

pub loop-slave-preserved : goal.loop-slave-preserved
loop-slave-preserved g c = record {
  written = next_written c.args.variable c.args.value c.args.world.now c.loop-slave.slave c.loop-slave.world c.put_slave-said.new.world c.put_slave-said.result
      c.loop-slave.invariant.written c.put_slave-said.ensures.made (sym c.is_done.ensures ∙ c.if-not-is_done.false);
  seen = observes_then g.S.Watcher.observed c.args.watcher.now c.loop-slave.watcher c.put_slave-said.new.watcher c.args.world.now c.loop-slave.world c.put_slave-said.new.world c.loop-slave.invariant.seen c.put_slave-said.ensures.observed;
}

pub returns-clause-made : goal.returns-clause-made
returns-clause-made g c =
    let count : length c.slaves-slaves.result.now ≡ length c.args.world.now.plan.slaves = ap length c.slaves-slaves.ensures.value ∙ ap (λ (p : PlanState). length p.slaves) c.plan.ensures.value in
    let all : c.loop-slave.slave ≡ length c.slaves-slaves.result.now = omega arith in
    all_written c.args.variable c.args.value c.args.world.now (length c.args.world.now.plan.slaves) c.loop-slave.slave c.loop-slave.world c.loop-slave.invariant.written (all ∙ count)
