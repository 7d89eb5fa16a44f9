use Rattle.std.proofs.Common.{◌≡◌, ◌∙◌, ap, subst}
use Rattle.ec_lines.specs.Inputs.{bytes_left}
use Rattle.ec_console.specs.Printing.{IsCutOff, IsPrinted}
use Rattle.ec_console.specs.Unmet.{ended_by}
use Rattle.ec_live.specs.Doing.{served_line}
use Rattle.ec_live.specs.Living.{begun}
use Rattle.ec_live.specs.Stages.{LinesState}
use Rattle.ec_live.proofs.Running.{begins, lives_out, lives_short, lives_unprinted, served_same}
use Rattle.ec_live.proofs.turns.print_live.Goals as goal

pub returns-in_err-print_text : goal.returns-in_err-print_text
returns-in_err-print_text g c =
    let wire = g.W.Wire.state c.args.station.now.wire in
    let left = bytes_left g.R.Read.remaining c.args.input.now in
    let first = begun c.args.live.now wire left c.args.output.now in
    let ran = c.run_turns-ended in
    let text : c.as_bytes.result.now ≡ served_line ran.new.live.answered ran.new.live.refused =
    c.as_bytes.ensures.value ∙ (c.deref.ensures.0 ∙ (c.served_text.ensures ∙ served_same _ _ _ _ c.served-answered.ensures.answered c.served-answered.ensures.refused)) in
    lives_unprinted c.from_residual.result ran.result c.in_err-print_text.field-0.0 c.args.station.now.frames first (bytes_left g.R.Read.remaining ran.new.input) ran.new.live ran.new.output c.print_text.new.output
    ran.new.lines.unmet c.from_residual.ensures.1 c.in_err-print_text.ensures.fault (ran.ensures first (begins c.args.live.now wire left c.args.output.now c.new-lines.result c.new-lines.ensures))
    (subst (IsCutOff ran.new.output c.print_text.new.output) text c.in_err-print_text.ensures.part)

pub returns-in_err-ended : goal.returns-in_err-ended
returns-in_err-ended g c =
    let wire = g.W.Wire.state c.args.station.now.wire in
    let left = bytes_left g.R.Read.remaining c.args.input.now in
    let first = begun c.args.live.now wire left c.args.output.now in
    let ran = c.run_turns-ended in
    let text : c.as_bytes.result.now ≡ served_line ran.new.live.answered ran.new.live.refused =
    c.as_bytes.ensures.value ∙ (c.deref.ensures.0 ∙ (c.served_text.ensures ∙ served_same _ _ _ _ c.served-answered.ensures.answered c.served-answered.ensures.refused)) in
    lives_short c.from_residual-in_err-ended.result ran.result c.in_err-ended.field-0.0 c.args.station.now.frames first (bytes_left g.R.Read.remaining ran.new.input) ran.new.live ran.new.output c.print_text.new.output
    ran.new.lines.unmet c.from_residual-in_err-ended.ensures.1 c.in_err-ended.was (ran.ensures first (begins c.args.live.now wire left c.args.output.now c.new-lines.result c.new-lines.ensures))
    (subst (IsPrinted ran.new.output c.print_text.new.output) text c.in_ok-print_text.ensures.all)

pub returns : goal.returns
returns g c =
    let wire = g.W.Wire.state c.args.station.now.wire in
    let left = bytes_left g.R.Read.remaining c.args.input.now in
    let first = begun c.args.live.now wire left c.args.output.now in
    let ran = c.run_turns-ended in
    let text : c.as_bytes.result.now ≡ served_line ran.new.live.answered ran.new.live.refused =
    c.as_bytes.ensures.value ∙ (c.deref.ensures.0 ∙ (c.served_text.ensures ∙ served_same _ _ _ _ c.served-answered.ensures.answered c.served-answered.ensures.refused)) in
    lives_out c.end_of.result ran.result c.args.station.now.frames first (bytes_left g.R.Read.remaining ran.new.input) ran.new.live ran.new.output c.print_text.new.output ran.new.lines.unmet c.in_ok-ended.was
    (ran.ensures first (begins c.args.live.now wire left c.args.output.now c.new-lines.result c.new-lines.ensures))
    (subst (IsPrinted ran.new.output c.print_text.new.output) text c.in_ok-print_text.ensures.all)
    (c.end_of.ensures ∙ ap (λ (x : LinesState). ended_by x.unmet) c.lines.view_is)
