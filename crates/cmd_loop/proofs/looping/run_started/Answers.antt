use Rattle.std.proofs.Common.{◌∙◌, ap, refl}
use Rattle.ec_table.specs.Contents.{Contents}
use Rattle.ec_text.specs.InputText.{inputs_text, value_of_variable}
use Rattle.cmd_loop.proofs.LoopLemmas.{cycles_shown, cycles_unshown}
use Rattle.cmd_loop.proofs.looping.run_started.Goals as goal

pub returns-in_err-lines : goal.returns-in_err-lines
returns-in_err-lines g c =
    let r = c.in_ok-print_cycles.ensures.all in
    cycles_unshown _ _ _ _ _ _ _ _ _ _ r.0 r.1 c.from_residual-in_err-lines.ensures.1 refl r.2 r.3

pub returns : goal.returns
returns g c =
    let r = c.in_ok-print_cycles.ensures.all in
    cycles_shown c.print_text.result _ c.args.machine.now _ c.print_cycles.new.master _ _ _ _ _ r.0 c.as_bytes.result.now r.1 r.2 r.3
    (c.as_bytes.ensures.value ∙ (c.in_ok-lines.ensures ∙ ap (λ (t : Contents). inputs_text (value_of_variable c.print_cycles.new.master) t) c.table.ensures.value)) c.print_text.ensures.all
    c.print_text.ensures.part c.print_text.ensures.fault
