use Rattle.std.proofs.Common.{◌∙◌, ◌-◌, ◌+◌, is_some, sym, ap, subst}
use Rattle.ec_script.specs.declared.output.LineOutput.TheVariants.{Nothing}
use Rattle.ec_simulation.specs.Work.{Starts, last_turn}
use Rattle.ec_simulation.proofs.Turning.{ended_turn, no_turn, none_left, one_less, stopped_turn, turned}
use Rattle.ec_simulation.proofs.Seeing.{observes_then}
use Rattle.ec_simulation.proofs.rounds.start_up.Goals as goal

pub returns-then-not-is_done-clause-made : goal.returns-then-not-is_done-clause-made
returns-then-not-is_done-clause-made g c =
    let turn = stopped_turn (last_turn - (c.loop.counter + 1)) c.loop.world c.take_turn-said.new.world c.take_turn-said.result c.take_turn-said.ensures.made (sym c.is_done.ensures ∙ c.if-not-is_done.true) in
    c.loop.invariant.ahead c.take_turn-said.new.world c.take_turn-said.result
    (subst (λ n. Starts n c.loop.world c.take_turn-said.new.world c.take_turn-said.result) (sym (one_less last_turn c.loop.counter c.loop-test.true)) turn)

pub returns-then-is_some-clause-made : goal.returns-then-is_some-clause-made
returns-then-is_some-clause-made g c =
    let ended = ap is_some (sym c.outcome.ensures) ∙ (sym c.is_some.ensures ∙ c.if-is_some.true) in
    let turn = ended_turn (last_turn - (c.loop.counter + 1)) c.loop.world c.take_turn-said.new.world c.take_turn-said.result c.take_turn-said.ensures.made ended in
    c.loop.invariant.ahead c.take_turn-said.new.world c.take_turn-said.result
    (subst (λ n. Starts n c.loop.world c.take_turn-said.new.world c.take_turn-said.result) (sym (one_less last_turn c.loop.counter c.loop-test.true)) turn)

pub loop-preserved : goal.loop-preserved
loop-preserved g c = record {
  ahead = λ new word ahead.
      let going = ap is_some (sym c.outcome.ensures) ∙ (sym c.is_some.ensures ∙ c.if-is_some.false) in
      let turn = turned (last_turn - (c.loop.counter + 1)) c.loop.world c.take_turn-said.new.world new c.take_turn-said.result word c.take_turn-said.ensures.made
      (sym c.is_done.ensures ∙ c.if-not-is_done.false) going ahead in
      c.loop.invariant.ahead new word (subst (λ n. Starts n c.loop.world new word) (sym (one_less last_turn c.loop.counter c.loop-test.true)) turn);
  seen = observes_then g.S.Watcher.observed c.args.watcher.now c.loop.watcher c.take_turn-said.new.watcher c.args.world.now c.loop.world c.take_turn-said.new.world c.loop.invariant.seen c.take_turn-said.ensures.observed;
}

pub returns-clause-made : goal.returns-clause-made
returns-clause-made g c =
    c.loop.invariant.ahead c.loop.world Nothing (subst (λ n. Starts n c.loop.world c.loop.world Nothing) (sym (none_left last_turn c.loop.counter c.loop-test.false)) (no_turn c.loop.world))
