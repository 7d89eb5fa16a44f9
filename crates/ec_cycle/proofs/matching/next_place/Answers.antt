use Rattle.ec_cycle.proofs.CursorSteps.{stepped_on, stepped_off}
use Rattle.ec_cycle.proofs.matching.next_place.Goals as goal

pub returns-in-Some : goal.returns-in-Some
returns-in-Some c = λ ds h. stepped_on c.args.payload.now c.args.places.now c.next_place.new.self c.in-Some.span ds h (c.in-Some.ensures.steps ds h) c.in-Some.ensures.within c.in-Some.ensures.first c.in-Some.ensures.others

pub returns-in-None : goal.returns-in-None
returns-in-None c = λ ds h. stepped_off c.args.payload.now c.args.places.now c.next_place.new.self ds h (c.in-None.ensures.steps ds h)
