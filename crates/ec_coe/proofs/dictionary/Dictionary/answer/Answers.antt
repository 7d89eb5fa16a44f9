use Rattle.std.proofs.Common.{rules}
use Rattle.ec_coe.specs.Answers.{answered}
use Rattle.ec_coe.proofs.dictionary.Dictionary.answer.Goals as goal

pub returns-clause-reply : goal.returns-clause-reply
unfolding answered
returns-clause-reply c = search rules
