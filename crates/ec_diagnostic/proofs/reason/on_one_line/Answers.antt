use Rattle.ec_diagnostic.proofs.OneLine.{plain_on_one_line}
use Rattle.std.proofs.Common.{arith, rules}
use Rattle.std.proofs.lemmas.Grind.{common_steps}
use Rattle.ec_diagnostic.proofs.reason.on_one_line.Goals as goal

pub returns-then-contains-clause-one_line : goal.returns-then-contains-clause-one_line
returns-then-contains-clause-one_line c = plain_on_one_line

pub returns-then-contains-clause-unchanged : goal.returns-then-contains-clause-unchanged
returns-then-contains-clause-unchanged c = grind (arith, common_steps)

pub returns-else-contains-clause-one_line : goal.returns-else-contains-clause-one_line
returns-else-contains-clause-one_line c = search rules
