-- What a line of a script does to a world, and its output (this project's profile). A line ends at the first
-- event that can't be made; its output is that of its last event.
use Rattle.std.specs.Prelude.{ℕ, zero, suc, ◌-◌, ◌^◌, ◌≡◌, ◌&&◌, List, [], ◌∷◌, ◌++◌, Bool, true, false, if◌then◌else◌, Option, Some, None, is_some, is_none, slice_get}
use Rattle.ec_start.specs.Running.{outcome_of}
use Rattle.ec_world.specs.declared.event.Event.{Event}
use Rattle.ec_world.specs.declared.event.Event.TheVariants as event
use Rattle.ec_world.specs.World.{WorldState, IsStep}
use Rattle.ec_script.specs.declared.expectation.Expectation.{Expectation}
use Rattle.ec_script.specs.declared.line.LineAction.{LineAction}
use Rattle.ec_script.specs.declared.line.LineAction.TheVariants.{Start, Set, Begin, Pass, Lose, Return, Close, Serve, Put, Get, Fail, Reset, Input, Never, Expect, Ready, Cycle, Within, Show, ShowVariable, Output, LosePart, Served, Report, States, Stop}
use Rattle.ec_script.specs.declared.output.LineOutput.{LineOutput}
use Rattle.ec_script.specs.declared.output.LineOutput.TheVariants as output
use Rattle.ec_script.specs.Outputs.{is_done, output_if}
use Rattle.ec_text.specs.InputText.{value_of_variable}
use Rattle.ec_simulation.specs.Expecting.{is_met}
use Rattle.ec_simulation.specs.Inputs.{input_events, is_input_of}
use Rattle.ec_simulation.specs.Rounds.{rounds_found}
use Rattle.ec_simulation.specs.Showing.{output_shown, said_value}

-- ---- one event

abbrev pub has_ended : WorldState → Bool
has_ended w = is_some (outcome_of w.start.phase)

-- the start-up ended between these worlds
abbrev pub ends : WorldState → WorldState → Bool
ends old new = is_none (outcome_of old.start.phase) && has_ended new

abbrev pub said_else : Event → LineOutput
said_else event.Close = output.Report
said_else (event.AppGet s i) = output.Byte
said_else _ = output.Nothing

-- the output of an event, by whether it was made
abbrev pub said_of : WorldState → Event → WorldState → Bool → LineOutput
said_of old e new false = output.No
said_of old e new true = if ends old new then output.Ended else said_else e

pub record Makes (e : Event) (old new : WorldState) (word : LineOutput) : Type 0 where
  pub made : Bool
  pub step : IsStep old e new made
  pub says : word ≡ said_of old e new made

-- ---- events one after another

abbrev pub Onward : Bool → Type 0 → Type 0 → Type 0
Onward true x y = x
Onward false x y = y

-- work, and further work if that was done and the test holds; the output is that of the last of them
pub record Then (test : WorldState → Bool) (first rest : WorldState → WorldState → LineOutput → Type 0) (old new : WorldState) (word : LineOutput) : Type 0 where
  pub mid : WorldState
  pub told : LineOutput
  pub begins : first old mid told
  pub goes_on : Onward (test mid && is_done told) (rest mid new word) ((new ≡ mid) × (word ≡ told))

abbrev pub always : WorldState → Bool
always w = true

abbrev pub MakesAll : List Event → WorldState → WorldState → LineOutput → Type 0
MakesAll [] old new word = (new ≡ old) × (word ≡ output.Nothing)
MakesAll (e ∷ []) old new word = Makes e old new word
MakesAll (e ∷ f ∷ es) old new word = Then always (Makes e) (MakesAll (f ∷ es)) old new word

-- ---- a start-up

-- its next frame is sent, and goes round
abbrev pub RunsTurn : WorldState → WorldState → LineOutput → Type 0
RunsTurn old new word = Then always (Makes event.StartNext) (λ w. MakesAll (rounds_found true w) w) old new word

abbrev pub is_starting : WorldState → Bool
is_starting w = is_none (outcome_of w.start.phase)

-- turn after turn until it has ended, at most this many
unfoldable pub Starts : ℕ → WorldState → WorldState → LineOutput → Type 0
Starts zero old new word = (new ≡ old) × (word ≡ output.Nothing)
Starts (suc n) old new word = Then is_starting RunsTurn (Starts n) old new word

-- there are no more numbers for its frames
abbrev pub last_turn : ℕ
last_turn = 2 ^ 64 - 1

-- ---- a cycle

-- it is begun, its frames go round, and it is closed
abbrev pub RunsCycle : WorldState → WorldState → LineOutput → Type 0
RunsCycle old new word = Then always (Makes event.Begin) (λ w. MakesAll (rounds_found false w ++ (event.Close ∷ [])) w) old new word

-- ---- cycles until something holds

-- a cycle, and what follows it; one that can't be run ends the line, whose expectation isn't met then
pub record CyclesOn (rest : WorldState → WorldState → LineOutput → Type 0) (old new : WorldState) (word : LineOutput) : Type 0 where
  pub mid : WorldState
  pub told : LineOutput
  pub cycle : RunsCycle old mid told
  pub goes_on : Onward (is_done told) (rest mid new word) ((new ≡ mid) × (word ≡ output.Unmet))

-- at most this many cycles; what is expected is looked at before the first and behind each
unfoldable pub Waits : ℕ → Expectation → WorldState → WorldState → LineOutput → Type 0
Waits zero e old new word = (new ≡ old) × (word ≡ output_if (is_met e old))
Waits (suc n) e old new word = Onward (is_met e old) ((new ≡ old) × (word ≡ output.Nothing)) (CyclesOn (Waits n e) old new word)

-- ---- an input variable

-- slave after slave writes its inputs; if it is no input, or can't hold the value, nothing is done
abbrev pub RunsInput : ℕ → ℕ → WorldState → WorldState → LineOutput → Type 0
RunsInput v x old new word =
    Onward (is_input_of x (slice_get old.plan.variables v)) (MakesAll (input_events old v x) old new word) ((new ≡ old) × (word ≡ output.No))

-- ---- an action

-- the event of an action that is one
abbrev pub event_of : LineAction → Option Event
event_of Start = Some event.StartNext
event_of (Set v x) = Some (event.Set v x)
event_of Begin = Some event.Begin
event_of (Pass k) = Some (event.Pass k)
event_of (Lose k) = Some (event.Lose k)
event_of (Return k) = Some (event.Return k)
event_of Close = Some event.Close
event_of (Serve s) = Some (event.Serve s)
event_of (Put s i x) = Some (event.AppPut s i x)
event_of (Get s i) = Some (event.AppGet s i)
event_of (Fail s) = Some (event.Fault s)
event_of (Reset s) = Some (event.Reset s)
event_of Stop = Some event.Stop
event_of _ = None

-- that event alone; none of any other action
abbrev pub alone : Option Event → List Event
alone None = []
alone (Some e) = e ∷ []

-- an action that isn't one of these is one event
abbrev pub Does : LineAction → WorldState → WorldState → LineOutput → Type 0
Does (Input v x) old new word = RunsInput v x old new word
Does (Never v) old new word = (new ≡ old) × (word ≡ output.No)
Does (Expect e) old new word = (new ≡ old) × (word ≡ output_if (is_met e old))
Does Ready old new word = Starts last_turn old new word
Does Cycle old new word = RunsCycle old new word
Does (Within n e) old new word = Waits n e old new word
Does Show old new word = (new ≡ old) × (word ≡ output.Values)
Does (ShowVariable v) old new word = (new ≡ old) × (word ≡ output.Value v (value_of_variable old.master v))
Does (Output v) old new word = (new ≡ old) × (word ≡ said_value v (output_shown old (slice_get old.plan.variables v)))
Does (LosePart n k) old new word = (new ≡ old) × (word ≡ output.No)
Does Served old new word = (new ≡ old) × (word ≡ output.No)
Does Report old new word = (new ≡ old) × (word ≡ output.Report)
Does States old new word = (new ≡ old) × (word ≡ output.States)
Does action old new word = MakesAll (alone (event_of action)) old new word
