-- Commands that run a machine: the text that states it, and the refusals before it runs (this project's profile).
use Rattle.std.specs.Prelude.{◌≡◌, ◌⊎◌, ℕ, Bool, true, false, List, [], ◌∷◌, ◌++◌, IfSome, Option, None, Result, Ok, Err}
use Rattle.ec_lines.specs.declared.error.LinesError.{LinesError}
use Rattle.ec_lines.specs.Taking.{RefusesText, TakesText}
use Rattle.ec_table.specs.Contents.{Contents, advertised_full}
use Rattle.ec_link.specs.Machine.{StatesMachine}
use Rattle.ec_script.specs.declared.line.Line.{Line}
use Rattle.ec_script.specs.Halves.{Splits}
use Rattle.ec_script.specs.Scripts.{Fails as ScriptFails, script_of}
use Rattle.ec_console.specs.declared.form.SlaveForm.{SlaveForm}
use Rattle.ec_console.specs.declared.form.SlaveForm.TheVariants.{Full, Plain}
use Rattle.ec_console.specs.declared.refusal.Refusal.{Refusal}
use Rattle.ec_console.specs.declared.refusal.Refusal.TheVariants.{Script}
use Rattle.ec_console.specs.declared.files.Origin.{Origin}
use Rattle.ec_console.specs.declared.files.Origin.TheVariants as origin
use Rattle.ec_console.specs.declared.stated.Source.{Source}
use Rattle.ec_console.specs.declared.stated.Source.TheVariants as takes
use Rattle.ec_console.specs.Capturing.{EndsWith}
use Rattle.ec_console.specs.Given.{Given, IsInputRefusal, IsTableRefusal, IsUnread, lines_refusal}

-- ---- the text

-- the text that is read of the bytes that an input gives, if they are known, and what it gives then
abbrev pub TakesSource : Source → (given : Option (List ℕ)) → (text : List ℕ) → (rest : Option (List ℕ)) → Type 0
TakesSource takes.Table given text rest = IfSome given (λ bytes. text ≡ bytes)
TakesSource takes.Script given text rest = IfSome given (λ bytes. text ≡ bytes)
TakesSource takes.Lines given text rest = TakesText given rest text

-- what the stream of an input has left, if it was given; of a file, nothing is known
abbrev pub left_in : {R O : Type 0} → (R → Option (List ℕ)) → Origin R O → Option (List ℕ)
left_in remaining (origin.Given stream) = remaining stream
left_in remaining (origin.Opened file) = None

-- what stands between a table and its script in one text
abbrev pub divider : List ℕ
divider = 10 ∷ 37 ∷ 37 ∷ 10 ∷ []

-- As `TakesSource`, for a table that was read before, so that the input has no table and no line `%%`.
abbrev pub TakesBehind : Source → (table : List ℕ) → (given : Option (List ℕ)) → (text : List ℕ) → (rest : Option (List ℕ)) → Type 0
TakesBehind takes.Table table given text rest = (text ≡ table) × (rest ≡ given)
TakesBehind takes.Script table given text rest = (script : List ℕ) × IfSome given (λ bytes. script ≡ bytes) × (text ≡ table ++ (divider ++ script))
TakesBehind takes.Lines table given text rest = (text ≡ table) × (rest ≡ given)

-- refusals of the input: of all of it, or of the text up to a line `%%`
abbrev pub RefusesSource : Source → Given → Refusal → Type 0
RefusesSource takes.Table given refusal = IsInputRefusal given refusal
RefusesSource takes.Script given refusal = IsInputRefusal given refusal
RefusesSource takes.Lines given refusal =
    (error : LinesError) × (left : Option (List ℕ)) × RefusesText given.is_refused given.bytes left error × (refusal ≡ lines_refusal error)

-- ---- the machine

-- the form of slaves that are full or aren't
abbrev pub slave_form : (full : Bool) → SlaveForm
slave_form false = Plain
slave_form true = Full

-- a table whose slaves are shown in a form
abbrev pub advertised_in : SlaveForm → Contents → Contents
advertised_in Plain t = t
advertised_in Full t = advertised_full t

-- the machine that a text states, with its slaves in a form
abbrev pub StatesIn : SlaveForm → List ℕ → Contents → Type 0
StatesIn form text t = (table : Contents) × StatesMachine text table × (t ≡ advertised_in form table)

-- that machine, and the lines of the script behind it, if there is to be one
abbrev pub States : Source → SlaveForm → List ℕ → Contents → List Line → Type 0
States takes.Table form text t lines = StatesIn form text t × (lines ≡ [])
States takes.Script form text t lines =
    (table : List ℕ) × (script : List ℕ) × Splits text table script × StatesIn form table t × (script_of t script ≡ Ok lines)
States takes.Lines form text t lines = StatesIn form text t × (lines ≡ [])

-- the first fault of the table, or of its plan, or the first bad line of the script, in this order
abbrev pub RefusesHalves : SlaveForm → (table script : List ℕ) → Refusal → Type 0
RefusesHalves form table script (Script error) = (t : Contents) × StatesIn form table t × ScriptFails error (script_of t script)
RefusesHalves form table script refusal = IsTableRefusal table refusal

abbrev pub RefusesStated : Source → SlaveForm → List ℕ → Refusal → Type 0
RefusesStated takes.Table form text refusal = IsTableRefusal text refusal
RefusesStated takes.Script form text refusal = (table : List ℕ) × (script : List ℕ) × Splits text table script × RefusesHalves form table script refusal
RefusesStated takes.Lines form text refusal = IsTableRefusal text refusal

-- ---- the run

-- a command is refused, and does nothing
abbrev pub IsNeverRun : (Refuses : Refusal → Type 0) → (Nothing : Type 0) → Result Unit Refusal → Type 0
IsNeverRun Refuses Nothing ended = (refusal : Refusal) × (ended ≡ Err refusal) × Refuses refusal × Nothing

-- A text states a machine and lines, and `Does` says what is done with them, with a capture if its file is named. Or the text is
-- refused, and no file is opened.
abbrev pub RunsStated : Source → SlaveForm → (file : Option (List ℕ)) → (Does : Contents → List Line → Result Unit Refusal → Type 0) → (Nothing : Type 0) → List ℕ → Result Unit Refusal → Type 0
RunsStated source form file Does Nothing text ended =
    ((t : Contents) × (lines : List Line) × States source form text t lines × EndsWith file (Does t lines) Nothing ended)
    ⊎ IsNeverRun (RefusesStated source form text) Nothing ended

-- a command on the text that the input gives, and on what the input gives behind that; or the input is refused
abbrev pub RunsSource : Source → SlaveForm → (file : Option (List ℕ)) → (Does : Given → Contents → List Line → Result Unit Refusal → Type 0) → (Nothing : Type 0) → Given → Result Unit Refusal → Type 0
RunsSource source form file Does Nothing given ended =
    ((text : List ℕ) × (rest : Option (List ℕ)) × TakesSource source given.bytes text rest
    × RunsStated source form file (Does (record given { bytes = rest })) Nothing text ended)
    ⊎ IsNeverRun (RefusesSource source given) Nothing ended

-- as `RunsSource`, for a table that was read before
abbrev pub RunsBehind : (table : List ℕ) → Source → SlaveForm → (file : Option (List ℕ)) → (Does : Given → Contents → List Line → Result Unit Refusal → Type 0) → (Nothing : Type 0) → Given → Result Unit Refusal → Type 0
RunsBehind table source form file Does Nothing given ended =
    ((text : List ℕ) × (rest : Option (List ℕ)) × TakesBehind source table given.bytes text rest
    × RunsStated source form file (Does (record given { bytes = rest })) Nothing text ended)
    ⊎ IsNeverRun IsUnread Nothing ended
