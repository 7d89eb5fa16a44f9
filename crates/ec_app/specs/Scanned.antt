-- `ecat scan` (this project's profile). Nothing is known of what a file gives.
use Rattle.std.specs.Prelude.{◌≡◌, ◌⊎◌, ℕ, List, Option, Some, None, Result, Err}
use Rattle.cmd_scan.specs.Scans.{RunsAgainst, RunsScan}
use Rattle.ec_table.specs.Contents.{Contents}
use Rattle.ec_console.specs.declared.form.SlaveForm.TheVariants.{Plain}
use Rattle.ec_console.specs.declared.refusal.Refusal.{Refusal}
use Rattle.ec_console.specs.Capturing.{EndsWith}
use Rattle.ec_console.specs.Printing.{OutputState}
use Rattle.ec_console.specs.Stating.{StatesIn}
use Rattle.ec_app.specs.Remarking.{IsFileRefusal}

-- what the file of a table gives: a text that states it
abbrev pub IsOfFile : Contents → Type 0
IsOfFile c = (text : List ℕ) × StatesIn Plain text c

-- The slaves are printed; or they are compared with the table in a file, which may be refused before. If the file of a capture is named, it
-- is opened between.
abbrev pub RunsScanWith : (against capture : Option (List ℕ)) → (old new : OutputState) → Result Unit Refusal → Type 0
RunsScanWith None capture old new ended = EndsWith capture (RunsScan old new) (new ≡ old) ended
RunsScanWith (Some file) capture old new ended =
    ((c : Contents) × IsOfFile c × EndsWith capture (RunsAgainst c old new) (new ≡ old) ended)
    ⊎ ((refusal : Refusal) × (ended ≡ Err refusal) × IsFileRefusal refusal × (new ≡ old))
