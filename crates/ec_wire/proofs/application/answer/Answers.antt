use Rattle.std.proofs.Common.{rules}
use Rattle.ec_wire.proofs.application.answer.Goals as goal

pub returns-then-is_err-clause-answered : goal.returns-then-is_err-clause-answered
returns-then-is_err-clause-answered g c = search rules
