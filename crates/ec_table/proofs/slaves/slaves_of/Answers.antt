use Rattle.std.proofs.Common.{arith}
use Rattle.ec_table.proofs.SectionRows.{rows_all}
use Rattle.ec_table.proofs.slaves.slaves_of.Goals as goal

pub loop-element-preserved : goal.loop-element-preserved
loop-element-preserved c = grind (arith, rows_all)

pub returns-in_err-row : goal.returns-in_err-row
returns-in_err-row c = grind (arith, rows_all)

pub returns : goal.returns
returns c = grind (arith, rows_all)
