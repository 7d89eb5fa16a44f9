use Rattle.std.proofs.Common.{rules}
use Rattle.ec_coe.specs.Transfers.{assignment_written}
use Rattle.ec_coe.proofs.assignment.Assignment.write.Goals as goal

pub returns-then-not-takes_value-clause-outcome : goal.returns-then-not-takes_value-clause-outcome
unfolding assignment_written
returns-then-not-takes_value-clause-outcome c = search rules

pub returns-clause-outcome : goal.returns-clause-outcome
unfolding assignment_written
returns-clause-outcome c = search rules
