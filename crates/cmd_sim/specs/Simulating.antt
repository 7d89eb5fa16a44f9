-- What lines do to a simulated segment, and what `ecat sim` prints and returns (this project's profile).
use Rattle.std.specs.Prelude.{◌≡◌, ℕ, List, ◌++◌, Bool, false, Option, Result}
use Rattle.ec_start.specs.Running.{outcome_of}
use Rattle.ec_table.specs.Contents.{Contents}
use Rattle.ec_world.specs.declared.event.Event.{Event}
use Rattle.ec_world.specs.Whole.{IsOfMachine}
use Rattle.ec_world.specs.World.{WorldState}
use Rattle.ec_script.specs.declared.line.Line.{Line}
use Rattle.ec_script.specs.declared.line.Step.{Step}
use Rattle.ec_script.specs.declared.line.LineAction.{LineAction}
use Rattle.ec_script.specs.declared.output.LineOutput.{LineOutput}
use Rattle.ec_script.specs.declared.output.LineOutput.TheVariants.{No, Unmet}
use Rattle.ec_script.specs.Outputs.{answer_of, is_counted, is_done}
use Rattle.ec_script.specs.Scripts.{is_simulated, repeated}
use Rattle.ec_script.specs.Texts.{output_text}
use Rattle.ec_simulation.specs.Events.{RunsLine}
use Rattle.ec_simulation.specs.Observing.{Observes}
use Rattle.ec_simulation.specs.Statuses.{statuses}
use Rattle.ec_simulation.specs.Views.{view_of}
use Rattle.ec_simulation.specs.Work.{Does}
use Rattle.ec_console.specs.declared.refusal.Refusal.{Refusal}
use Rattle.ec_console.specs.declared.wanted.Manner.{Manner}
use Rattle.ec_console.specs.Coming.{ComesOut, ComesPart, Reader, reading_at}
use Rattle.ec_console.specs.Given.{Given}
use Rattle.ec_console.specs.Printing.{OutputState}
use Rattle.ec_console.specs.Reasons.{ReasonIf}
use Rattle.ec_console.specs.Saying.{EndsRun, PrintsAll, PrintsPart}
use Rattle.ec_console.specs.Unmet.{unmet_of}

-- ---- lines

-- the outputs that a reason follows, if reasons are wanted: that a step can't be done, or that what is expected isn't so
abbrev pub is_reasoned : Manner → LineOutput → Bool
is_reasoned manner No = manner.explained
is_reasoned manner Unmet = manner.explained
is_reasoned manner _ = false

-- A step of a line is done. It leaves the world as `World::run` of its events does (`RunsLine`), with or without reasons, and its text is
-- that of the world then. Why it says `no`, or isn't met, stands behind it, if reasons are wanted.
pub record SaysLine (manner : Manner) (t : Contents) (w : WorldState) (line : Step) (new : WorldState) (printed : List ℕ) (unmet : ℕ) : Type 0 where
  pub said : LineOutput
  pub does : Does line.action w new said
  pub run : RunsLine line.action w new (is_done said)
  pub why : List ℕ
  pub reason : ReasonIf (is_reasoned manner (answer_of line.expects_no said)) why
  pub text : printed ≡ output_text t line.number (view_of new) (statuses new) (answer_of line.expects_no said) ++ why
  pub count : unmet ≡ unmet_of (is_counted manner.strict (outcome_of new.start.phase) (answer_of line.expects_no said))

-- what line n prints for an output in a world, with the reason behind it that it may have
abbrev pub IsLineText : (manner : Manner) → Contents → ℕ → WorldState → LineOutput → List ℕ → Type 0
IsLineText manner t n w said text = (why : List ℕ) × ReasonIf (is_reasoned manner said) why × (text ≡ output_text t n (view_of w) (statuses w) said ++ why)

-- the actions that a simulated segment takes
abbrev pub takes_action : Contents → LineAction → Bool
takes_action t action = is_simulated action

-- what line n of an input is to it
abbrev pub line_read : Contents → Reader
line_read t = reading_at takes_action t

-- ---- a segment that is watched

-- a world, what its watcher keeps, the table whose names lines use, and whether reasons are wanted
pub record Simulated (S : Type 0) : Type 0 where
  pub world : WorldState
  pub watcher : S
  pub table : Contents
  pub manner : Manner

-- a line is done once, and the watcher sees its events and nothing else
pub record Simulates {S : Type 0} (observed : S → WorldState → Event → WorldState → S → Type 0) (s : Simulated S) (line : Step) (new : Simulated S) (printed : List ℕ) (unmet : ℕ) : Type 0 where
  pub says : SaysLine s.manner s.table s.world line new.world printed unmet
  pub sees : Observes observed s.watcher s.world new.world new.watcher
  pub plan : new.world.plan ≡ s.world.plan
  pub table : new.table ≡ s.table
  pub manner : new.manner ≡ s.manner

-- ---- the whole

-- the lines of a script are done over slaves of a table that are switched on, and what they expect isn't so so many times
abbrev pub RunsAll : Manner → Contents → List Line → (old new : OutputState) → (unmet : ℕ) → Type 0
RunsAll manner t lines old new unmet =
    (w : WorldState) × IsOfMachine t w × (last : WorldState) × PrintsAll (SaysLine manner t) w (repeated lines) last unmet old new

-- some first of them are done
abbrev pub RunsPart : Manner → Contents → List Line → (old new : OutputState) → Type 0
RunsPart manner t lines old new = (w : WorldState) × IsOfMachine t w × (last : WorldState) × PrintsPart (SaysLine manner t) w (repeated lines) last old new

-- a script is run, up to its end or in part
abbrev pub RunsLines : Manner → Contents → List Line → (old new : OutputState) → Result Unit Refusal → Type 0
RunsLines manner t lines old new ended = EndsRun (RunsAll manner t lines old new) (RunsPart manner t lines old new) false old new ended

-- the same for the lines of an input, which are done as they come; reasons also stand behind bad ones
abbrev pub LivesAll : Manner → Contents → (given : Option (List ℕ)) → (old new : OutputState) → (unmet : ℕ) → Type 0
LivesAll manner t given old new unmet =
    (w : WorldState) × IsOfMachine t w × (last : WorldState) × ComesOut (SaysLine manner t) (λ v. manner) (line_read t) w given last unmet old new

abbrev pub LivesPart : Manner → Contents → (given : Option (List ℕ)) → (old new : OutputState) → Type 0
LivesPart manner t given old new = (w : WorldState) × IsOfMachine t w × (last : WorldState) × ComesPart (SaysLine manner t) (λ v. manner) (line_read t) w given last old new

abbrev pub RunsLive : Manner → Contents → (given : Given) → (old new : OutputState) → Result Unit Refusal → Type 0
RunsLive manner t given old new ended = EndsRun (LivesAll manner t given.bytes old new) (LivesPart manner t given.bytes old new) given.is_refused old new ended
