use Rattle.ec_start.specs.Running.{is_accepted}
use Rattle.ec_bringup.proofs.StartUp.BringUp.{turn-whole}
use Rattle.ec_bringup.proofs.turns.turn.Goals as goal

pub returns-clause-made : goal.returns-clause-made
returns-clause-made c = λ sent.
    turn-whole c.args.startup.now c.next.new.self c.take.new.self c.next.result c.args.ring.now c.pass_frame.new.self c.serve_all.new.ring
    c.next.new.frame.items c.as_mut_slice-payload.result.now c.pass_frame.new.frame (is_accepted c.take.result)
    c.in-Send.is c.next.ensures.answer c.next.ensures.state c.next.ensures.written c.as_mut_slice-payload.ensures.value
    c.pass_frame.ensures.ring c.serve_all.ensures c.take.ensures
