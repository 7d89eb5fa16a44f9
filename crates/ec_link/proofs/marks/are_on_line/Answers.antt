use Rattle.std.proofs.Common.{◌≡◌, ◌∙◌, true, ap, sym, inl, inr, subst, arith, ℕ, get_or}
use Rattle.std.proofs.lemmas.Bool.{cases_lt}
use Rattle.std.proofs.lemmas.List.{get_or_default}
use Rattle.ec_link.specs.Marks.{is_on_line}
use Rattle.ec_link.proofs.marks.are_on_line.Goals as goal

pub loop-link_run-preserved : goal.loop-link_run-preserved
loop-link_run-preserved c k d lt = elim (cases_lt k c.loop-link_run.link_run-index) [
  | inl below ↦ c.loop-link_run.invariant k d below
  | inr above ↦
      let here : c.loop-link_run.link_run-index ≡ k = omega arith in
      subst (λ (n : ℕ). is_on_line c.args.slaves c.args.variables (get_or c.args.link_runs.now n d) ≡ true) here
      (ap (is_on_line c.args.slaves c.args.variables) (sym (get_or_default c.args.link_runs.now c.loop-link_run.link_run-index _ d c.loop-link_run-test.true)) ∙ sym c.is_on_line.ensures ∙ c.if-not-is_on_line.false)
]
