use Rattle.ec_cycle.proofs.OnTheirWay.{answer_on_their_way, frames_are_returned}
use Rattle.ec_cycle.proofs.laws.frames_come_back.Goals as goal

pub returns-clause-answers : goal.returns-clause-answers
returns-clause-answers c = answer_on_their_way

pub returns-clause-accepted : goal.returns-clause-accepted
returns-clause-accepted c = frames_are_returned
