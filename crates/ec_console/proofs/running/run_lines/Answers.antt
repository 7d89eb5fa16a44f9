use Rattle.std.proofs.Common.{◌∙◌, [], ◌∷◌, ◌++◌, ap, append-nil, append_assoc, refl, subst, sym}
use Rattle.ec_script.specs.Scripts.{repeated}
use Rattle.ec_console.proofs.PrintLemmas.{if_err}
use Rattle.ec_console.proofs.SayLemmas.{HasSaid, all_said, lines_more, lines_of, none_said, said_more, said_part}
use Rattle.ec_console.proofs.running.run_lines.Goals as goal

pub loop-line-init : goal.loop-line-init
loop-line-init g c = record { said = none_said g.T.Target.says c.args.target.now c.args.output.now; left = c.into_iter-line-iterator.ensures.into_iter_gives ∙ c.lines-line-items.ensures; table = refl }

pub returns-in_err-count-clause-part : goal.returns-in_err-count-clause-part
returns-in_err-count-clause-part g c =
    if_err _ (said_part g.T.Target.says c.args.target.now c.args.lines.now (lines_of c.loop-line.yielded) c.in-Some.line.now c.next.new.self c.loop-line.target c.loop-line.unmet c.obey_line.new.target _ _ _ c.loop-line.invariant.said
    (ap (λ rest. lines_of c.loop-line.yielded ++ rest) (sym c.in-Some.ensures.steps) ∙ c.loop-line.invariant.left) c.in_err-count.ensures.part)

pub returns-in_err-count-clause-table : goal.returns-in_err-count-clause-table
returns-in_err-count-clause-table g c = c.obey_line.ensures.table ∙ c.loop-line.invariant.table

pub loop-line-preserved : goal.loop-line-preserved
loop-line-preserved g c = record {
  said = subst (λ ls. HasSaid g.T.Target.says c.args.target.now (repeated ls) c.obey_line.new.target c.saturating_add-unmet.result c.args.output.now c.obey_line.new.output) (sym (lines_more c.loop-line.yielded c.in-Some.line))
      (said_more g.T.Target.says c.args.target.now (lines_of c.loop-line.yielded) c.in-Some.line.now c.loop-line.target c.obey_line.new.target c.loop-line.unmet c.in_ok-count.count _ _ _ _ c.loop-line.invariant.said
      c.in_ok-count.ensures.all c.saturating_add-unmet.ensures);
  left = ap (λ ls. ls ++ c.next.new.self) (lines_more c.loop-line.yielded c.in-Some.line)
      ∙ (append_assoc (lines_of c.loop-line.yielded) (c.in-Some.line.now ∷ []) c.next.new.self
      ∙ (ap (λ rest. lines_of c.loop-line.yielded ++ rest) (sym c.in-Some.ensures.steps) ∙ c.loop-line.invariant.left));
  table = c.obey_line.ensures.table ∙ c.loop-line.invariant.table;
}

pub returns-clause-all : goal.returns-clause-all
returns-clause-all g c =
    all_said g.T.Target.says c.args.target.now c.args.lines.now (lines_of c.loop-line.yielded) c.loop-line.target c.loop-line.unmet _ _ c.loop-line.invariant.said
    (sym (append-nil (lines_of c.loop-line.yielded)) ∙ (ap (λ rest. lines_of c.loop-line.yielded ++ rest) (sym c.in-None.ensures.steps.0) ∙ c.loop-line.invariant.left))

pub returns-clause-table : goal.returns-clause-table
returns-clause-table g c = c.loop-line.invariant.table
