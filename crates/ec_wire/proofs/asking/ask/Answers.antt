use Rattle.std.proofs.Common.{◌∙◌, sym}
use Rattle.ec_wire.proofs.WireCalls.{no_fault}
use Rattle.ec_wire.proofs.Hearing.{asked}
use Rattle.ec_wire.proofs.asking.ask.Goals as goal

pub returns : goal.returns
returns g c =
    let state = g.W.Wire.state in
    let went = c.if-not-send_on.false in
    asked c.args.question c.args.count (state c.args.wire.now) (state c.send_on.new.wire) (state c.hear_answer.new.wire) c.as_slice.result.now c.write_question.new.frame.items c.hear_answer.result
    c.write_question.ensures c.as_slice.ensures.value (no_fault _ (sym went ∙ c.send_on.ensures.fault)) (c.send_on.ensures.same went) (c.send_on.ensures.done went) c.hear_answer.ensures
