use Rattle.std.proofs.Common.{arith}
use Rattle.ec_table.proofs.SectionRows.{rows_all}
use Rattle.ec_table.proofs.parameters.parameters_of.Goals as goal

pub loop-value-preserved : goal.loop-value-preserved
loop-value-preserved c = grind (arith, rows_all)

pub returns-in_err-parameter : goal.returns-in_err-parameter
returns-in_err-parameter c = grind (arith, rows_all)

pub returns : goal.returns
returns c = grind (arith, rows_all)
