use Rattle.std.proofs.Common.{Bool, true, false, arith, subst, sym}
use Rattle.ec_link.specs.Marks.{Marks}
use Rattle.ec_link.proofs.MarkWords.{marks_one, marks_or}
use Rattle.ec_link.proofs.marks.mark.Goals as goal

pub returns-then-head-count : goal.returns-then-head-count
returns-then-head-count c = marks_one _ _ c.args.from _ c.args.count _ c.if-head-count.true c.mark_in_word-found.ensures

pub returns-then-found : goal.returns-then-found
returns-then-found c =
    subst (λ (b : Bool). Marks c.args.from c.args.count c.args.marks.now c.mark_in_word-again.new.marks b) (sym c.if-found.true)
    (marks_or _ _ _ c.args.from c.min-head.result c.args.count _ c.mark_in_word-again.result true c.if-found.true (omega arith) c.mark_in_word-found.ensures c.mark_in_word-again.ensures)

pub returns-else-found : goal.returns-else-found
returns-else-found c = marks_or _ _ _ c.args.from c.min-head.result c.args.count _ c.mark_in_word-again.result false c.if-found.false (omega arith) c.mark_in_word-found.ensures c.mark_in_word-again.ensures
