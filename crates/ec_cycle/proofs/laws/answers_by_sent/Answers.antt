use Rattle.ec_cycle.proofs.AnswersFrame.{answers_by_sent, sent_by_answers}
use Rattle.ec_cycle.proofs.laws.answers_by_sent.Goals as goal

pub returns : goal.returns
returns c = λ p number k image ds. (sent_by_answers p number k image ds, λ h. answers_by_sent p number k image ds h.0 h.1 h.2)
