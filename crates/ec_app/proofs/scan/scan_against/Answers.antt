use Rattle.std.proofs.Common.{◌∙◌, refl}
use Rattle.ec_console.proofs.CaptureLemmas.{captured_end, captured_refused}
use Rattle.ec_app.proofs.scan.scan_against.Goals as goal

pub returns-in_err-capture-clause-runs : goal.returns-in_err-capture-clause-runs
returns-in_err-capture-clause-runs g c = captured_refused _ _ _ _ _ c.from_residual.ensures.1 c.in_err-capture.ensures.refused.0 c.in_err-capture.ensures.refused.1 refl

pub returns-clause-runs : goal.returns-clause-runs
returns-clause-runs g c =
    captured_end _ c.run_against-ended.new.capture _ _ c.run_against-ended.result _ (c.run_against-ended.ensures.still_open ∙ c.in_ok-capture.ensures.opened) c.close_capture.ensures c.run_against-ended.ensures.runs
