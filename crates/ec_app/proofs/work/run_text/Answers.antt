use Rattle.std.proofs.Common.{◌∙◌, inl, inr, refl}
use Rattle.ec_console.proofs.CaptureLemmas.{captured_end, captured_refused}
use Rattle.ec_console.proofs.StateLemmas.{never_run}
use Rattle.ec_app.specs.Running.{form_of, source_of}
use Rattle.ec_app.proofs.RunLemmas.{refused_as, stated_as}
use Rattle.ec_app.proofs.work.run_text.Goals as goal

pub returns-in_err-stated-clause-runs : goal.returns-in_err-stated-clause-runs
returns-in_err-stated-clause-runs g c =
    inr (never_run _ c.in_err-stated.field-0.0 _ _ c.from_residual.ensures.1
    (refused_as c.source.result (source_of c.args.work) c.form.result (form_of c.args.work) c.args.text.now c.in_err-stated.field-0.0 c.source.ensures c.form.ensures c.in_err-stated.ensures.refused) (refl, refl))

pub returns-in_err-capture-clause-runs : goal.returns-in_err-capture-clause-runs
returns-in_err-capture-clause-runs g c = inl (
  c.in_ok-stated.stated.machine,
  c.in_ok-stated.stated.lines,
  stated_as c.source.result (source_of c.args.work) c.form.result (form_of c.args.work) c.args.text.now c.in_ok-stated.stated.machine c.in_ok-stated.stated.lines c.source.ensures c.form.ensures
      c.in_ok-stated.ensures.states,
  captured_refused _ _ _ _ _ c.from_residual-in_err-capture.ensures.1 c.in_err-capture.ensures.refused.0 c.in_err-capture.ensures.refused.1 (refl, refl),
)

pub returns-clause-runs : goal.returns-clause-runs
returns-clause-runs g c = inl (
  c.in_ok-stated.stated.machine,
  c.in_ok-stated.stated.lines,
  stated_as c.source.result (source_of c.args.work) c.form.result (form_of c.args.work) c.args.text.now c.in_ok-stated.stated.machine c.in_ok-stated.stated.lines c.source.ensures c.form.ensures
      c.in_ok-stated.ensures.states,
  captured_end _ c.run_on-ended.new.capture _ _ c.run_on-ended.result _ (c.run_on-ended.ensures.still_open ∙ c.in_ok-capture.ensures.opened) c.close_capture.ensures c.run_on-ended.ensures.runs,
)
