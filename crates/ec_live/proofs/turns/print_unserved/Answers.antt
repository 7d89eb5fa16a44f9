use Rattle.std.proofs.Common.{◌≡◌, ◌∙◌, Err, subst}
use Rattle.ec_console.specs.Printing.{IsCutOff, IsPrinted}
use Rattle.ec_live.specs.Doing.{served_line}
use Rattle.ec_live.specs.Living.{begun}
use Rattle.ec_live.proofs.Running.{lives_unserved, served_same, unserved_unprinted}
use Rattle.ec_live.proofs.turns.print_unserved.Goals as goal

pub returns-in_err-print_text : goal.returns-in_err-print_text
returns-in_err-print_text g c = λ frames wire left.
    let live = c.args.live.now in
    let text : c.as_bytes.result.now ≡ served_line live.answered live.refused =
    c.as_bytes.ensures.value ∙ (c.deref.ensures.0 ∙ (c.served_text.ensures ∙ served_same _ _ _ _ c.served-answered.ensures.answered c.served-answered.ensures.refused)) in
    unserved_unprinted c.from_residual.result c.in_err-print_text.field-0.0 frames (begun live wire left c.args.output.now) c.print_text.new.output c.from_residual.ensures.1 c.in_err-print_text.ensures.fault
    (subst (IsCutOff c.args.output.now c.print_text.new.output) text c.in_err-print_text.ensures.part)

pub returns : goal.returns
returns g c = λ frames wire left.
    let live = c.args.live.now in
    let text : c.as_bytes.result.now ≡ served_line live.answered live.refused =
    c.as_bytes.ensures.value ∙ (c.deref.ensures.0 ∙ (c.served_text.ensures ∙ served_same _ _ _ _ c.served-answered.ensures.answered c.served-answered.ensures.refused)) in
    lives_unserved (Err c.into.result) c.args.fault.0 frames (begun live wire left c.args.output.now) c.print_text.new.output c.into.ensures
    (subst (IsPrinted c.args.output.now c.print_text.new.output) text c.in_ok-print_text.ensures.all)
