use Rattle.ec_wire.proofs.StartUpTurns.{loses_there, rests_there, turn_made, waits_there}
use Rattle.ec_wire.proofs.startup.turn.Goals as goal

pub returns-then-exchange-clause-made : goal.returns-then-exchange-clause-made
returns-then-exchange-clause-made g c = λ _.
    turn_made c.args.startup.now c.next.new.self c.exchange.new.startup (g.W.Wire.state c.args.wire.now) (g.W.Wire.state c.exchange.new.wire) c.as_slice.result.now c.next.new.frame.items c.next.result
    c.in-Send.is c.next.ensures.answer c.next.ensures.state c.next.ensures.written c.as_slice.ensures.value (c.exchange.ensures.answered c.if-exchange.true)

pub returns-in-Ended-clause-ended : goal.returns-in-Ended-clause-ended
returns-in-Ended-clause-ended g c = λ _.
    rests_there c.args.startup.now c.next.new.self (g.W.Wire.state c.args.wire.now) c.next.result c.in-Ended.is c.next.ensures.answer c.next.ensures.state

pub returns-else-exchange-clause-ended : goal.returns-else-exchange-clause-ended
returns-else-exchange-clause-ended g c = λ _.
    loses_there c.args.startup.now c.next.new.self c.exchange.new.startup c.give_up.new.self (g.W.Wire.state c.args.wire.now) (g.W.Wire.state c.exchange.new.wire) c.as_slice.result.now
    c.next.new.frame.items c.next.result c.in-Send.is c.next.ensures.answer c.next.ensures.state c.next.ensures.written c.as_slice.ensures.value (c.exchange.ensures.unchanged c.if-exchange.false)
    c.give_up.ensures (c.exchange.ensures.unanswered c.if-exchange.false)

pub returns-in-Waiting-clause-ended : goal.returns-in-Waiting-clause-ended
returns-in-Waiting-clause-ended g c = λ _.
    waits_there c.args.startup.now c.next.new.self c.give_up-in-Waiting.new.self (g.W.Wire.state c.args.wire.now) c.next.result c.in-Waiting.is c.next.ensures.answer c.next.ensures.state
    c.give_up-in-Waiting.ensures
