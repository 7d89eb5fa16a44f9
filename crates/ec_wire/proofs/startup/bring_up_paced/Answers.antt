use Rattle.std.proofs.Common.{◌≡◌, arith}
use Rattle.ec_start.specs.Running.{last_number}
use Rattle.ec_wire.proofs.StartUpTurns.{brought_ended, brought_plan, last_turn, one_turn}
use Rattle.ec_wire.proofs.ComingUp.{comes_up_over}
use Rattle.ec_wire.proofs.startup.bring_up_paced.Goals as goal

pub returns-then-not-turn-clause-ended : goal.returns-then-not-turn-clause-ended
returns-then-not-turn-clause-ended g c = brought_ended _ _ _ _ (c.turn.ensures.ended c.if-not-turn.true)

pub returns-then-not-turn-clause-leads : goal.returns-then-not-turn-clause-leads
returns-then-not-turn-clause-leads g c = c.loop.invariant.on _ _ (c.turn.ensures.ended c.if-not-turn.true)

pub returns-then-not-turn-clause-plan : goal.returns-then-not-turn-clause-plan
returns-then-not-turn-clause-plan g c = brought_plan _ _ _ _ (returns-then-not-turn-clause-leads g c)

pub loop-preserved : goal.loop-preserved
loop-preserved g c =
    one_turn c.args.startup.now c.loop.startup c.turn.new.startup (g.W.Wire.state c.args.wire.now) (g.W.Wire.state c.loop.wire) (g.W.Wire.state c.turn.new.wire) c.loop.counter
    c.loop.invariant (c.turn.ensures.made c.if-not-turn.false)

-- no number is left
pub returns-clause-leads : goal.returns-clause-leads
returns-clause-leads g c =
    let low = c.next_number-counter.type_inv in
    let most = c.loop.auto.counter-end (omega (arith, low)) in
    let least = c.loop-test.false in
    let last : c.loop.counter ≡ last_number = omega (arith, most, least) in
    last_turn c.turn-2.result c.args.startup.now c.loop.startup c.turn-2.new.startup (g.W.Wire.state c.args.wire.now) (g.W.Wire.state c.loop.wire) (g.W.Wire.state c.turn-2.new.wire) c.loop.counter
    c.loop.invariant last c.turn-2.ensures.made c.turn-2.ensures.ended

pub returns-clause-ended : goal.returns-clause-ended
returns-clause-ended g c = brought_ended _ _ _ _ (returns-clause-leads g c)

pub returns-clause-plan : goal.returns-clause-plan
returns-clause-plan g c = brought_plan _ _ _ _ (returns-clause-leads g c)

pub returns-then-not-turn-clause-up : goal.returns-then-not-turn-clause-up
returns-then-not-turn-clause-up g c = comes_up_over _ _ _ _ (returns-then-not-turn-clause-leads g c)

pub returns-clause-up : goal.returns-clause-up
returns-clause-up g c = comes_up_over _ _ _ _ (returns-clause-leads g c)
