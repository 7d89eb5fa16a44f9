use Rattle.std.proofs.Common.{Bor, ℕ, List, Option, sym, subst}
use Rattle.std.specs.Prelude.{option_map}
use Rattle.ec_app.specs.Scanned.{RunsScanWith}
use Rattle.ec_app.proofs.RunLemmas.{left_twice}
use Rattle.ec_app.proofs.ScanLemmas.{compared, file_refused}
use Rattle.ec_app.proofs.scan.print_scan.Goals as goal

pub returns-in_err-machine-in-Some-clause-runs : goal.returns-in_err-machine-in-Some-clause-runs
returns-in_err-machine-in-Some-clause-runs g c = subst
    (λ (o : Option (Bor (List ℕ))). RunsScanWith (option_map (λ x. x.now) o) (option_map (λ x. x.now) c.args.files.capture) c.args.output.now c.args.output.now c.from_residual.result) (sym c.in-Some.is)
    (file_refused c.in-Some.path.now _ _ _ _ c.from_residual.ensures.1 c.in_err-machine-in-Some.ensures.refused)

pub returns-in_ok-machine-in-Some-clause-runs : goal.returns-in_ok-machine-in-Some-clause-runs
returns-in_ok-machine-in-Some-clause-runs g c = subst
    (λ (o : Option (Bor (List ℕ))). RunsScanWith (option_map (λ x. x.now) o) (option_map (λ x. x.now) c.args.files.capture) c.args.output.now c.scan_against.new.output c.scan_against.result) (sym c.in-Some.is)
    (compared c.in-Some.path.now _ _ _ _ _ _ c.in_ok-machine-in-Some.ensures.read c.table.ensures.value c.scan_against.ensures.runs)

pub returns-in_ok-machine-in-Some-clause-explains : goal.returns-in_ok-machine-in-Some-clause-explains
returns-in_ok-machine-in-Some-clause-explains g c = left_twice _ _ _ c.read_linked.ensures.explains c.scan_against.ensures.explains
