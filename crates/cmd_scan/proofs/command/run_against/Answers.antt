use Rattle.std.proofs.Common.{◌∙◌, sym}
use Rattle.cmd_scan.proofs.Ending.{all_compared, cut_compared, none_compared}
use Rattle.cmd_scan.proofs.command.run_against.Goals as goal

pub returns-in_err-seen-clause-runs : goal.returns-in_err-seen-clause-runs
returns-in_err-seen-clause-runs g c = none_compared c.args.table.now _ _ _ c.from_residual.ensures.1 c.in_err-seen.ensures.refused

pub returns-in_err-text-clause-runs : goal.returns-in_err-text-clause-runs
returns-in_err-text-clause-runs g c = none_compared c.args.table.now _ _ _ c.from_residual-in_err-text.ensures.1 tt

pub returns-in_err-agreed-clause-runs : goal.returns-in_err-agreed-clause-runs
returns-in_err-agreed-clause-runs g c = none_compared c.args.table.now _ _ _ c.from_residual-in_err-agreed.ensures.1 tt

pub returns-in_err-print_text-clause-runs : goal.returns-in_err-print_text-clause-runs
returns-in_err-print_text-clause-runs g c =
    cut_compared c.args.table.now _ _ _ _ _ c.from_residual-in_err-print_text.ensures.1 c.in_err-print_text.ensures.fault c.in_err-print_text.ensures.part

pub returns-clause-runs : goal.returns-clause-runs
returns-clause-runs g c =
    all_compared c.args.table.now _ c.in_ok-seen.seen.shown.items c.in_ok-seen.seen.found.items _ _ _ _ _ _ c.in_ok-seen.ensures.found c.as_slice-2.ensures.value c.in_ok-agreed.ensures
    (c.as_bytes-2.ensures.value ∙ sym c.as_bytes.ensures.value) c.against_end.ensures c.in_ok-print_text.ensures.all
