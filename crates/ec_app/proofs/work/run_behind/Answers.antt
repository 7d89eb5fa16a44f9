use Rattle.std.proofs.Common.{ℕ, List, inl, inr, refl, sym, subst}
use Rattle.ec_lines.specs.Inputs.{bytes_left}
use Rattle.ec_console.specs.declared.stated.Source.{Source}
use Rattle.ec_console.specs.Stating.{TakesBehind}
use Rattle.ec_console.proofs.StateLemmas.{never_run}
use Rattle.ec_app.proofs.work.run_behind.Goals as goal

pub returns-in_err-text-clause-runs : goal.returns-in_err-text-clause-runs
returns-in_err-text-clause-runs g c = inr (never_run _ c.in_err-text.field-0.0 _ _ c.from_residual.ensures.1 c.in_err-text.ensures.refused (refl, refl))

pub returns-clause-runs : goal.returns-clause-runs
returns-clause-runs g c =
    let given = bytes_left g.R.Read.remaining c.args.console.now.input in
    let rest = bytes_left g.R.Read.remaining c.read_behind.new.input in
    let table = c.args.given.0.now in
    inl (
      c.as_str.result.now,
      rest,
      subst (λ (s : Source). TakesBehind s table given c.as_str.result.now rest) c.source.ensures
          (subst (λ (text : List ℕ). TakesBehind c.source.result table given text rest) (sym c.as_str.ensures.value) c.in_ok-text.ensures.taken),
      c.run_text-ended.ensures.runs,
    )
