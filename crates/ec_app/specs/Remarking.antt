-- What `ecat decode` prints with remarks for people (this project's profile). Nothing is known of what a file gives.
use Rattle.std.specs.Prelude.{◌≡◌, ◌⊎◌, ℕ, List, Bool, true, false, Option, Some, None, Result, Ok, Err}
use Rattle.std.specs.Str.Lines.{lines}
use Rattle.ec_annotate.specs.declared.names.Names.{Names}
use Rattle.ec_annotate.specs.declared.names.Names.TheVariants.{Added, Omitted}
use Rattle.ec_annotate.specs.Annotating.{Annotates}
use Rattle.ec_console.specs.declared.refusal.Refusal.{Refusal}
use Rattle.ec_console.specs.declared.refusal.Refusal.TheVariants.{BadHex, Output}
use Rattle.ec_console.specs.Given.{Given, GivesText, IsInputRefusal, IsTableRefusal, IsUnread}
use Rattle.ec_console.specs.Printing.{IsCutOff, IsPrinted, OutputState}
use Rattle.ec_app.specs.Translating.{RunsDecode}

-- what is printed of the input's lines, with remarks, up to the first that isn't hex; and whether there is none
pub record Remarks (given : Given) (printed : List ℕ) (whole : Bool) : Type 0 where
  pub text : List ℕ
  pub gives : GivesText given text
  pub annotates : Annotates (lines text) printed whole

-- As `RunsDecode`, with remarks between the lines: without the indented lines, it prints what `RunsDecode` prints.
abbrev pub RunsRemarked : (given : Given) → (old new : OutputState) → Result Unit Refusal → Type 0
RunsRemarked given old new (Ok done) = (printed : List ℕ) × Remarks given printed true × IsPrinted old new printed
RunsRemarked given old new (Err BadHex) = (printed : List ℕ) × Remarks given printed false × IsPrinted old new printed
RunsRemarked given old new (Err Output) = (printed : List ℕ) × (whole : Bool) × Remarks given printed whole × IsCutOff old new printed
RunsRemarked given old new (Err refusal) = IsInputRefusal given refusal × (new ≡ old)

-- ---- by a link table

-- a run with remarks, or a refusal that comes before the input is read
abbrev pub OrRefused : (Refusal → Type 0) → (given : Given) → (old new : OutputState) → Result Unit Refusal → Type 0
OrRefused Refuses given old new ended =
    RunsRemarked given old new ended ⊎ ((refusal : Refusal) × (ended ≡ Err refusal) × Refuses refusal × (new ≡ old))

-- the refusals of a table's file: it can't be read, or its table is refused
abbrev pub IsFileRefusal : Refusal → Type 0
IsFileRefusal refusal = IsUnread refusal ⊎ ((text : List ℕ) × IsTableRefusal text refusal)

abbrev pub RunsByFile : (given : Given) → (old new : OutputState) → Result Unit Refusal → Type 0
RunsByFile = OrRefused IsFileRefusal

-- by the file of a table, if one is named
abbrev pub RunsWith : (file : Option (List ℕ)) → (given : Given) → (old new : OutputState) → Result Unit Refusal → Type 0
RunsWith None = RunsRemarked
RunsWith (Some file) = RunsByFile

-- `ecat decode`, with remarks if a table is named or the standard's names are wanted
abbrev pub RunsDecodeWith : (table : Option (List ℕ)) → Names → (given : Given) → (old new : OutputState) → Result Unit Refusal → Type 0
RunsDecodeWith None Omitted = RunsDecode
RunsDecodeWith None Added = RunsRemarked
RunsDecodeWith (Some file) names = RunsByFile
