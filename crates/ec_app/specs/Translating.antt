-- What `ecat decode` and `ecat encode` print (this project's profile).
use Rattle.std.specs.Prelude.{◌≡◌, ◌⊎◌, ℕ, List, Bool, true, false, Result, Ok, Err}
use Rattle.std.specs.Str.Lines.{lines}
use Rattle.ec_frame.specs.Frame.{Payload}
use Rattle.ec_decode.specs.Answers.{AreSpelled, DecodesLines}
use Rattle.ec_decode.specs.Reading.{frames_of}
use Rattle.ec_decode.specs.declared.error.DecodeError.TheVariants as script
use Rattle.ec_console.specs.declared.refusal.Refusal.{Refusal}
use Rattle.ec_console.specs.declared.refusal.Refusal.TheVariants.{Memory, Script, BadHex, Output}
use Rattle.ec_console.specs.Given.{Given, GivesText, IsInputRefusal}
use Rattle.ec_console.specs.Printing.{IsCutOff, IsPrinted, OutputState, Prints}

-- what is printed of the input's lines, up to the first that isn't hex; and whether there is none
pub record Decodes (given : Given) (printed : List ℕ) (whole : Bool) : Type 0 where
  pub text : List ℕ
  pub gives : GivesText given text
  pub decodes : DecodesLines (lines text) printed whole

-- `ecat decode`: all lines are printed, or those before the first that isn't hex. Or a write was refused, and a first part of
-- them is printed. Or the input is refused, and nothing is printed.
abbrev pub RunsDecode : (given : Given) → (old new : OutputState) → Result Unit Refusal → Type 0
RunsDecode given old new (Ok done) = (printed : List ℕ) × Decodes given printed true × IsPrinted old new printed
RunsDecode given old new (Err BadHex) = (printed : List ℕ) × Decodes given printed false × IsPrinted old new printed
RunsDecode given old new (Err Output) = (printed : List ℕ) × (whole : Bool) × Decodes given printed whole × IsCutOff old new printed
RunsDecode given old new (Err refusal) = IsInputRefusal given refusal × (new ≡ old)

-- the frames of a text in hex, one a line
abbrev pub IsEncoded : List ℕ → List ℕ → Type 0
IsEncoded text printed = (ps : List Payload) × (frames_of text ≡ Ok ps) × AreSpelled ps printed

-- the refusals of a text that is out of form, by its first bad line; memory may run out at any time
abbrev pub IsOutOfForm : List ℕ → Refusal → Type 0
IsOutOfForm text Memory = Unit {0}
IsOutOfForm text (Script (script.BadScript n)) = frames_of text ≡ Err n
IsOutOfForm text _ = ⊥

-- `ecat encode`
abbrev pub AnswersEncode : Given → List ℕ → Type 0
AnswersEncode given printed = (text : List ℕ) × GivesText given text × IsEncoded text printed

abbrev pub RefusesEncode : Given → Refusal → Type 0
RefusesEncode given refusal = IsInputRefusal given refusal ⊎ ((text : List ℕ) × GivesText given text × IsOutOfForm text refusal)

abbrev pub RunsEncode : (given : Given) → (old new : OutputState) → Result Unit Refusal → Type 0
RunsEncode given = Prints (AnswersEncode given) (RefusesEncode given)
