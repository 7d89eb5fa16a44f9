use Rattle.std.proofs.Common.{arith}
use Rattle.ec_table.proofs.SectionRows.{rows_all}
use Rattle.ec_table.proofs.pdos.entries_of.Goals as goal

pub loop-value-preserved : goal.loop-value-preserved
loop-value-preserved c = grind (arith, rows_all)

pub returns-in_err-entry : goal.returns-in_err-entry
returns-in_err-entry c = grind (arith, rows_all)

pub returns : goal.returns
returns c = grind (arith, rows_all)
