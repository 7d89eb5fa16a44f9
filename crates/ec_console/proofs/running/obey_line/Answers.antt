use Rattle.std.proofs.Common.{ℕ, List, ◌≡◌, ◌∙◌, arith, refl, subst}
use Rattle.ec_script.specs.declared.line.Task.{Task}
use Rattle.ec_console.specs.Saying.{PrintsAll, PrintsPart}
use Rattle.ec_console.specs.Unmet.{counted}
use Rattle.ec_console.proofs.PrintLemmas.{if_err}
use Rattle.ec_console.proofs.SayLemmas.{no_round, round_more, round_part, rounds_all}
use Rattle.ec_console.proofs.running.obey_line.Goals as goal

pub loop-init : goal.loop-init
loop-init g c = record { said = no_round g.T.Target.says c.args.target.now c.args.line.now.tasks c.args.output.now; table = refl }

pub returns-in_err-count-clause-part : goal.returns-in_err-count-clause-part
returns-in_err-count-clause-part g c =
    if_err _ (round_part g.T.Target.says c.args.target.now c.args.line.now.tasks c.loop.counter c.args.line.now.times c.loop.target c.loop.unmet c.obey_tasks.new.target _ _ _ c.loop.invariant.said c.loop-test.true
    (subst (λ (ts : List Task). PrintsPart g.T.Target.says c.loop.target ts c.obey_tasks.new.target c.loop.output c.obey_tasks.new.output) c.as_slice.ensures c.in_err-count.ensures.part))

pub returns-in_err-count-clause-table : goal.returns-in_err-count-clause-table
returns-in_err-count-clause-table g c = c.obey_tasks.ensures.table ∙ c.loop.invariant.table

pub loop-preserved : goal.loop-preserved
loop-preserved g c = record {
  said = round_more g.T.Target.says c.args.target.now c.args.line.now.tasks c.loop.counter c.loop.target c.obey_tasks.new.target c.loop.unmet c.in_ok-count.count _ _ _ _ c.loop.invariant.said
      (subst (λ (ts : List Task). (x : ℕ) × (c.in_ok-count.count ≡ counted x) × PrintsAll g.T.Target.says c.loop.target ts c.obey_tasks.new.target x c.loop.output c.obey_tasks.new.output) c.as_slice.ensures c.in_ok-count.ensures.all)
      c.saturating_add-unmet.ensures;
  table = c.obey_tasks.ensures.table ∙ c.loop.invariant.table;
}

pub returns-clause-all : goal.returns-clause-all
returns-clause-all g c = rounds_all g.T.Target.says c.args.target.now c.args.line.now.tasks c.args.line.now.times c.loop.counter c.loop.target c.loop.unmet _ _ c.loop.invariant.said (omega arith)

pub returns-clause-table : goal.returns-clause-table
returns-clause-table g c = c.loop.invariant.table
