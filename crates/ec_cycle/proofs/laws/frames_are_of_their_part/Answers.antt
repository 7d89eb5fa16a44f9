use Rattle.ec_cycle.proofs.AnswersFrame.{names_tell}
use Rattle.ec_cycle.proofs.OnTheirWay.{data_fill_their_part}
use Rattle.ec_cycle.proofs.laws.frames_are_of_their_part.Goals as goal

pub returns-clause-data : goal.returns-clause-data
returns-clause-data c = data_fill_their_part

pub returns-clause-names : goal.returns-clause-names
returns-clause-names c = names_tell
