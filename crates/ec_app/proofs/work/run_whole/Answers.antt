use Rattle.std.proofs.Common.{ℕ, List, inl, inr, refl, sym, subst}
use Rattle.ec_lines.specs.Inputs.{bytes_left}
use Rattle.ec_console.specs.declared.stated.Source.{Source}
use Rattle.ec_console.specs.Given.{given_by}
use Rattle.ec_console.specs.Stating.{RefusesSource, TakesSource}
use Rattle.ec_console.proofs.StateLemmas.{never_run}
use Rattle.ec_app.proofs.work.run_whole.Goals as goal

pub returns-in_err-text-clause-runs : goal.returns-in_err-text-clause-runs
returns-in_err-text-clause-runs g c =
    inr (never_run _ c.in_err-text.field-0.0 _ _ c.from_residual.ensures.1
    (subst (λ (s : Source). RefusesSource s (given_by g.R.Read.remaining c.args.console.now.input c.read_source.new.input) c.in_err-text.field-0.0) c.source.ensures c.in_err-text.ensures.refused) (refl, refl))

pub returns-clause-runs : goal.returns-clause-runs
returns-clause-runs g c =
    let given = bytes_left g.R.Read.remaining c.args.console.now.input in
    let rest = bytes_left g.R.Read.remaining c.read_source.new.input in
    inl (
      c.as_str.result.now,
      rest,
      subst (λ (s : Source). TakesSource s given c.as_str.result.now rest) c.source.ensures
          (subst (λ (text : List ℕ). TakesSource c.source.result given text rest) (sym c.as_str.ensures.value) c.in_ok-text.ensures.taken),
      c.run_text-ended.ensures.runs,
    )
