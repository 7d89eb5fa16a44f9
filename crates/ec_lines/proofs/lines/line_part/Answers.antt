use Rattle.std.proofs.Common.{arith}
use Rattle.ec_lines.proofs.BlockLemmas.{all_part, newline_bound, newline_ends}
use Rattle.ec_lines.proofs.lines.line_part.Goals as goal

pub overflow_add-result : goal.overflow_add-result
overflow_add-result c = omega (arith, newline_bound c.args.bytes.now c.in-Some.place c.in-Some.ensures)

pub returns-in-Some-clause-bound : goal.returns-in-Some-clause-bound
returns-in-Some-clause-bound c = newline_bound c.args.bytes.now c.in-Some.place c.in-Some.ensures

pub returns-in-Some-clause-is_part : goal.returns-in-Some-clause-is_part
returns-in-Some-clause-is_part c = newline_ends c.args.bytes.now c.in-Some.place c.in-Some.ensures

pub returns-in-None-clause-is_part : goal.returns-in-None-clause-is_part
returns-in-None-clause-is_part c = all_part c.args.bytes.now c.in-None.ensures
