use Rattle.std.proofs.Common.{inl, inr, subst}
use Rattle.ec_console.specs.Printing.{IsCutOff, IsPrinted}
use Rattle.cmd_scan.proofs.Ending.{all_printed, cut_off, left_twice, none_printed}
use Rattle.cmd_scan.proofs.command.run_scan.Goals as goal

pub returns-in_err-seen-clause-runs : goal.returns-in_err-seen-clause-runs
returns-in_err-seen-clause-runs g c = none_printed _ _ _ c.from_residual.ensures.1 (inl c.in_err-seen.ensures.refused)

pub returns-in_err-text-clause-runs : goal.returns-in_err-text-clause-runs
returns-in_err-text-clause-runs g c = none_printed _ _ _ c.from_residual-in_err-text.ensures.1 (inr c.in_err-text.ensures.refused)

pub returns-in_err-print_text-clause-runs : goal.returns-in_err-print_text-clause-runs
returns-in_err-print_text-clause-runs g c =
    cut_off _ _ _ c.in_ok-seen.seen.found.items _ _ c.from_residual-in_err-print_text.ensures.1 c.in_err-print_text.ensures.fault c.in_ok-text.ensures.text
    (subst (IsCutOff _ _) c.as_bytes.ensures.value c.in_err-print_text.ensures.part)

pub returns-clause-runs : goal.returns-clause-runs
returns-clause-runs g c =
    all_printed _ _ c.in_ok-seen.seen.found.items c.as_slice-found.result.now _ _ c.in_ok-text.ensures.text c.as_slice-found.ensures.value c.unsaid_end.ensures
    (subst (IsPrinted _ _) c.as_bytes.ensures.value c.in_ok-print_text.ensures.all)

pub returns-in_err-text-clause-explains : goal.returns-in_err-text-clause-explains
returns-in_err-text-clause-explains g c = left_twice _ _ _ c.scan_at.ensures.explains c.text_of.ensures.explains

pub returns-in_err-print_text-clause-explains : goal.returns-in_err-print_text-clause-explains
returns-in_err-print_text-clause-explains g c = left_twice _ _ _ c.scan_at.ensures.explains c.text_of.ensures.explains

pub returns-clause-explains : goal.returns-clause-explains
returns-clause-explains g c = left_twice _ _ _ c.scan_at.ensures.explains (left_twice _ _ _ c.text_of.ensures.explains c.explain_by.ensures)
