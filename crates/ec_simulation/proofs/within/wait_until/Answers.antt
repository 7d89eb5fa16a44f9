use Rattle.std.proofs.Common.{◌∙◌, ◌-◌, ◌+◌, sym, subst}
use Rattle.ec_script.specs.declared.output.LineOutput.TheVariants.{Nothing, Unmet}
use Rattle.ec_simulation.specs.Work.{Waits}
use Rattle.ec_simulation.proofs.Seeing.{observes_then}
use Rattle.ec_simulation.proofs.Turning.{none_left, one_less}
use Rattle.ec_simulation.proofs.Waiting.{cycled, holds_now, looked, uncycled}
use Rattle.ec_simulation.proofs.within.wait_until.Goals as goal

pub returns-then-is_met-clause-waits : goal.returns-then-is_met-clause-waits
returns-then-is_met-clause-waits g c =
    c.loop.invariant.ahead c.loop.world Nothing
    (subst (λ n. Waits n c.args.expected c.loop.world c.loop.world Nothing) (sym (one_less c.args.times c.loop.counter c.loop-test.true))
    (holds_now (c.args.times - (c.loop.counter + 1)) c.args.expected c.loop.world (sym c.is_met.ensures ∙ c.if-is_met.true)))

pub returns-then-not-is_done-clause-waits : goal.returns-then-not-is_done-clause-waits
returns-then-not-is_done-clause-waits g c =
    c.loop.invariant.ahead c.run_cycle-said.new.world Unmet
    (subst (λ n. Waits n c.args.expected c.loop.world c.run_cycle-said.new.world Unmet) (sym (one_less c.args.times c.loop.counter c.loop-test.true))
    (uncycled (c.args.times - (c.loop.counter + 1)) c.args.expected c.loop.world c.run_cycle-said.new.world c.run_cycle-said.result (sym c.is_met.ensures ∙ c.if-is_met.false) c.run_cycle-said.ensures.made
    (sym c.is_done.ensures ∙ c.if-not-is_done.true)))

pub returns-then-not-is_done-clause-observed : goal.returns-then-not-is_done-clause-observed
returns-then-not-is_done-clause-observed g c =
    observes_then g.S.Watcher.observed c.args.watcher.now c.loop.watcher c.run_cycle-said.new.watcher c.args.world.now c.loop.world c.run_cycle-said.new.world c.loop.invariant.seen c.run_cycle-said.ensures.observed

pub loop-preserved : goal.loop-preserved
loop-preserved g c = record {
  ahead = λ new word ahead.
      c.loop.invariant.ahead new word
      (subst (λ n. Waits n c.args.expected c.loop.world new word) (sym (one_less c.args.times c.loop.counter c.loop-test.true))
      (cycled (c.args.times - (c.loop.counter + 1)) c.args.expected c.loop.world c.run_cycle-said.new.world new c.run_cycle-said.result word (sym c.is_met.ensures ∙ c.if-is_met.false) c.run_cycle-said.ensures.made
      (sym c.is_done.ensures ∙ c.if-not-is_done.false) ahead));
  seen = observes_then g.S.Watcher.observed c.args.watcher.now c.loop.watcher c.run_cycle-said.new.watcher c.args.world.now c.loop.world c.run_cycle-said.new.world c.loop.invariant.seen c.run_cycle-said.ensures.observed;
}

pub returns-clause-waits : goal.returns-clause-waits
returns-clause-waits g c =
    c.loop.invariant.ahead c.loop.world c.expect.result
    (subst (λ n. Waits n c.args.expected c.loop.world c.loop.world c.expect.result) (sym (none_left c.args.times c.loop.counter c.loop-test.false))
    (looked c.args.expected c.loop.world c.expect.result c.expect.ensures))
