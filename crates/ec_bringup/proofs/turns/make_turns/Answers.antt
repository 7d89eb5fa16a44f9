use Rattle.ec_bringup.proofs.Words.{◌≡◌, ◌∙◌, arith, PreludeIsTrue as IsTrue, both_ways, last_number, rising}
use Rattle.ec_bringup.proofs.StartUp.BringUp.{turns-go, turns-end, none-left}
use Rattle.ec_bringup.proofs.turns.make_turns.Goals as goal

pub returns-then-not-turn : goal.returns-then-not-turn
returns-then-not-turn c =
    turns-end (rising c.args.startup.now c.args.ring.now) c.loop.startup c.turn.new.startup c.loop.ring c.turn.new.ring c.loop.counter c.loop.invariant
    (λ e. both_ways c.turn.result c.if-not-turn.true (c.turn.ensures.answer.1 e)) c.turn.ensures.none c.turn.ensures.ring_unchanged

pub loop-preserved : goal.loop-preserved
loop-preserved c =
    let sent : IsTrue c.turn.result = c.if-not-turn.false in
    turns-go (rising c.args.startup.now c.args.ring.now) c.loop.startup c.turn.new.startup c.loop.ring c.turn.new.ring c.loop.counter c.loop.invariant
    (c.turn.ensures.answer.0 sent) (c.turn.ensures.made sent)

pub returns : goal.returns
returns c =
    let most = c.loop.auto.counter-end (omega (arith, c.next_number-counter.type_inv)) in
    let last : c.loop.counter ≡ last_number = omega (arith, most, c.loop-test.false) in
    turns-end (rising c.args.startup.now c.args.ring.now) c.loop.startup c.turn-2.new.startup c.loop.ring c.turn-2.new.ring c.loop.counter c.loop.invariant
    (none-left c.loop.startup (c.loop.invariant.next_number ∙ last)) c.turn-2.ensures.none c.turn-2.ensures.ring_unchanged
