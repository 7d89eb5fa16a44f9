-- The events of a line. The work of a line, of `ready`, of `cycle` and of a whole script is a run of events (this
-- project's profile).
use Rattle.std.specs.Prelude.{ℕ, zero, suc, ◌<◌, ◌≤◌, ◌≡◌, ◌⊎◌, List, [], ◌∷◌, ◌++◌, length, replicate, take, get_or, slice_get, Bool, true, false, Option}
use Rattle.ec_world.specs.declared.event.Event.{Event}
use Rattle.ec_world.specs.declared.event.Event.TheVariants.{StartNext, Begin, Close}
use Rattle.ec_world.specs.Laws.{IsRun}
use Rattle.ec_world.specs.Plain.{filled}
use Rattle.ec_world.specs.World.{Flight, WorldState, can_happen, flights_from}
use Rattle.ec_script.specs.declared.line.LineAction.{LineAction}
use Rattle.ec_script.specs.declared.expectation.Expectation.{Expectation}
use Rattle.ec_script.specs.declared.line.LineAction.TheVariants.{Input, LosePart, Never, Output, Ready, Cycle, Served, ShowVariable, Within}
use Rattle.ec_script.specs.declared.line.Line.{Line}
use Rattle.ec_script.specs.declared.line.Task.{Task}
use Rattle.ec_script.specs.declared.line.Task.TheVariants as task
use Rattle.ec_script.specs.declared.output.LineOutput.{LineOutput}
use Rattle.ec_simulation.specs.Expecting.{is_met}
use Rattle.ec_simulation.specs.Inputs.{input_events, is_input_of}
use Rattle.ec_simulation.specs.Rounds.{greatest, rounds, slots_with}
use Rattle.ec_script.specs.Scripts.{repeated}
use Rattle.ec_script.specs.Outputs.{is_done}
use Rattle.ec_simulation.specs.Work.{Does, Onward, alone, event_of, has_ended, last_turn}

-- ---- events as far as they can be made

-- This many of the events are made, in their order; then there is none left, or the next can't be made.
pub record AreMade (events : List Event) (old new : WorldState) (all : Bool) : Type 0 where
  pub made : ℕ
  pub within : made ≤ length events
  pub run : IsRun old (take made events) new made
  pub whole : all ≡ true → made ≡ length events
  pub stopped : all ≡ false → (made < length events) × (can_happen new (get_or events made Close) ≡ false)

-- ---- a cycle

-- the slots after this many frames of a number were sent, into the lowest free ones; what is in the frames is left out
abbrev pub slots_sent : ℕ → ℕ → List (Option Flight) → List (Option Flight)
slots_sent count number slots = filled (flights_from number 0 (replicate count [])) slots

-- the slots of the newest frames, rising
abbrev pub newest_slots : List (Option Flight) → List ℕ
newest_slots slots = slots_with (greatest slots) 0 slots

-- `begin`; each part's frame past every slave and back; `close`
abbrev pub cycle_events : WorldState → List Event
cycle_events w =
    Begin ∷ (rounds (length w.slaves) false (newest_slots (slots_sent (length w.master.plan.parts) w.master.next w.slots)) ++ (Close ∷ []))

-- ---- a start-up

-- A frame of a start-up is in the lowest slot, since it is sent only if no other is on its way.
abbrev pub lowest_slot : {X : Type 0} → List X → List ℕ
lowest_slot [] = []
lowest_slot (slot ∷ slots) = 0 ∷ []

-- `start`; the frame past every slave; each slave serves; the frame comes back
abbrev pub turn_events : WorldState → List Event
turn_events w = StartNext ∷ rounds (length w.slaves) true (lowest_slot w.slots)

-- this many turns
abbrev pub turns_events : WorldState → ℕ → List Event
turns_events w zero = []
turns_events w (suc turns) = turn_events w ++ turns_events w turns

-- the start-up goes on after these events
pub record GoesOn (events : List Event) (old : WorldState) : Type 0 where
  pub mid : WorldState
  pub made : AreMade events old mid true
  pub going : has_ended mid ≡ false

-- turn after turn until the start-up has ended, and no further; there are no more turns than numbers of frames
pub record RunsReady (old new : WorldState) (all : Bool) : Type 0 where
  pub turns : ℕ
  pub most : turns ≤ last_turn
  pub made : AreMade (turns_events old turns) old new all
  pub before : (n : ℕ) → 0 < n → n < turns → GoesOn (turns_events old n) old
  pub ended : all ≡ true → (has_ended new ≡ true) ⊎ (turns ≡ last_turn)

-- ---- cycles until something holds

-- a cycle as far as it can be made, and, if that is whole, what follows it
pub record CycleGoesOn (rest : WorldState → WorldState → Type 0) (old new : WorldState) : Type 0 where
  pub mid : WorldState
  pub whole : Bool
  pub made : AreMade (cycle_events old) old mid whole
  pub goes_on : Onward whole (rest mid new) (new ≡ mid)

-- Cycle after cycle until the expectation holds, and no further, and at most this many. One that can't be made as a whole is the last.
unfoldable pub RunsWithin : ℕ → Expectation → WorldState → WorldState → Type 0
RunsWithin zero e old new = new ≡ old
RunsWithin (suc n) e old new = Onward (is_met e old) (new ≡ old) (CycleGoesOn (RunsWithin n e) old new)

-- ---- a line

-- Whether all of its events could be made. A line that expects or prints something has none. A line that gives a variable a value
-- that it can't have has none either, and can't be done; nor can lines that a simulation doesn't take.
abbrev pub RunsLine : LineAction → WorldState → WorldState → Bool → Type 0
RunsLine (Input v x) old new all = Onward (is_input_of x (slice_get old.plan.variables v)) (AreMade (input_events old v x) old new all) ((new ≡ old) × (all ≡ false))
RunsLine (Never v) old new all = (new ≡ old) × (all ≡ false)
RunsLine (Output v) old new all = new ≡ old
RunsLine (ShowVariable v) old new all = (new ≡ old) × (all ≡ true)
RunsLine (Within n e) old new all = RunsWithin n e old new × (all ≡ true)
RunsLine (LosePart n k) old new all = (new ≡ old) × (all ≡ false)
RunsLine Served old new all = (new ≡ old) × (all ≡ false)
RunsLine Ready old new all = RunsReady old new all
RunsLine Cycle old new all = AreMade (cycle_events old) old new all
RunsLine action old new all = AreMade (alone (event_of action)) old new all

-- What an action does is a run of its events. One that has events says `no` exactly if one can't be made; one that waits for something
-- never does.
abbrev pub LinesRun : Type 0
LinesRun = (action : LineAction) (old new : WorldState) (word : LineOutput) → Does action old new word → RunsLine action old new (is_done word)

-- ---- a script

-- a task: a text that is printed changes nothing
abbrev pub DoesTask : Task → WorldState → WorldState → Type 0
DoesTask (task.Step step) old new = (word : LineOutput) × Does step.action old new word
DoesTask (task.Echo text) old new = new ≡ old

-- tasks one after another
abbrev pub DoesAll : List Task → WorldState → WorldState → Type 0
DoesAll [] old new = new ≡ old
DoesAll (task ∷ tasks) old new = (mid : WorldState) × DoesTask task old mid × DoesAll tasks mid new

-- A run of events does to a world what a script does, with each line as often as it is done.
abbrev pub ScriptsRun : Type 0
ScriptsRun = (lines : List Line) (old new : WorldState) → DoesAll (repeated lines) old new → (events : List Event) × IsRun old events new (length events)
