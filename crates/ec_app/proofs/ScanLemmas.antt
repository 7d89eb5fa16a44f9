-- A scan that is compared with the table in a file.
use Rattle.std.proofs.Common.{◌≡◌, ℕ, List, Option, Some, Result, Ok, Err, inl, inr, refl, sym, subst}
use Rattle.std.specs.Result.{IsErrAnd}
use Rattle.ec_table.specs.Contents.{Contents}
use Rattle.ec_console.specs.declared.refusal.Refusal.{Refusal}
use Rattle.ec_console.specs.Capturing.{EndsWith}
use Rattle.ec_console.specs.Printing.{OutputState}
use Rattle.cmd_scan.specs.Scans.{RunsAgainst}
use Rattle.ec_app.specs.Remarking.{IsFileRefusal}
use Rattle.ec_app.specs.Scanned.{IsOfFile, RunsScanWith}

-- it is compared
pub compared : (file : List ℕ) (capture : Option (List ℕ)) (c d : Contents) (r : Result Unit Refusal) (old new : OutputState) → IsOfFile c → d ≡ c
    → EndsWith capture (RunsAgainst d old new) (new ≡ old) r → RunsScanWith (Some file) capture old new r
compared file capture c d r old new of same runs = inl (c, of, subst (λ (t : Contents). EndsWith capture (RunsAgainst t old new) (new ≡ old) r) same runs)

-- the file is refused
pub file_refused : (file : List ℕ) (capture : Option (List ℕ)) (r : Result Unit Refusal) (x : Refusal) (known : OutputState) → IsErrAnd r (λ e. e ≡ x) → IsFileRefusal x
    → RunsScanWith (Some file) capture known known r
file_refused file capture (Ok done) x known is h = absurd is
file_refused file capture (Err e) x known is h = inr (e, refl, subst IsFileRefusal (sym is) h, refl)
