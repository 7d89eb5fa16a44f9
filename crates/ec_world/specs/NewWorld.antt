-- A start-up that nothing disturbs ends Ready: that of a new world, and one that begins again after a failure or a stop.
use Rattle.std.specs.Prelude.{ℕ, zero, suc, ◌+◌, ◌<◌, ◌≤◌, ◌≡◌, ◌⊎◌, List, [], ◌∷◌, ◌++◌, length, get_or, set, replicate, max, Bool, true, false, None}
use Rattle.ec_device.specs.declared.slave_type.Identity.{Identity}
use Rattle.ec_table.specs.Contents.{Contents}
use Rattle.ec_link.specs.Plan.{plan_of}
use Rattle.ec_start.specs.declared.error.StartError.{StartError}
use Rattle.ec_start.specs.declared.phase.Phase.TheVariants.{Failed}
use Rattle.ec_start.specs.Running.{begun, last_number}
use Rattle.ec_start.specs.Feeding.{feeds_of}
use Rattle.ec_bringup.specs.Undisturbed.{Rising}
use Rattle.ec_bringup.specs.ComesUp.{IsUpAndWorks}
pub use Rattle.ec_bringup.specs.ComesUp.{AllAgree}
use Rattle.ec_bringup.specs.Counting.{frames_up}
pub use Rattle.ec_bringup.specs.Devices.{AreOfTypes}
use Rattle.ec_world.specs.declared.event.Event.{Event}
use Rattle.ec_world.specs.declared.event.Event.TheVariants.{StartNext, Pass, Return, Serve}
use Rattle.ec_world.specs.World.{WorldState, flight_at, is_up}
use Rattle.ec_world.specs.Laws.{IsRun}
use Rattle.ec_world.specs.Whole.{IsNew, IsOfMachine}

-- ---- a frame that nothing disturbs

-- The rest of a turn past n slaves, whose frame is in slot 0. There is a mark for each slave that the frame has passed: whether
-- it made its firmware step since. `back` says whether the frame came back. Apart from that the order is free, and each is once.
pub data IsRest (n : ℕ) : (marks : List Bool) (back : Bool) → List Event → Type 0 where
  Passes : (marks : List Bool) (events : List Event) → length marks < n → IsRest n (marks ++ (false ∷ [])) false events → IsRest n marks false (Pass 0 ∷ events)
  Returns : (marks : List Bool) (events : List Event) → length marks ≡ n → IsRest n marks true events → IsRest n marks false (Return 0 ∷ events)
  Serves : (marks : List Bool) (back : Bool) (s : ℕ) (events : List Event) → get_or marks s true ≡ false → IsRest n (set marks s true) back events → IsRest n marks back (Serve s ∷ events)
  Ends : (marks : List Bool) → marks ≡ replicate n true → IsRest n marks true []

-- A turn: the next frame is sent, passes n slaves and comes back, and each slave serves once behind it.
pub record IsTurn (n : ℕ) (events : List Event) : Type 0 where
  pub rest : List Event
  pub sends : events ≡ StartNext ∷ rest
  pub goes : IsRest n [] false rest

-- so many turns, one after the other
abbrev pub AreTurns : (n turns : ℕ) → List Event → Type 0
AreTurns n zero events = events ≡ []
AreTurns n (suc turns) events = (turn : List Event) × (rest : List Event) × (events ≡ turn ++ rest) × IsTurn n turn × AreTurns n turns rest

-- how many frames a start-up of the world takes that nothing disturbs
abbrev pub frames_to_ready : Contents → WorldState → ℕ
frames_to_ready t w = frames_up (plan_of t).slaves (feeds_of (plan_of t)) w.slaves

-- the turns of a whole start-up: one for each action of its script, for each part that is fed, and for each poll more of a wait
abbrev pub BringUp : Contents → WorldState → List Event → Type 0
BringUp t w events = AreTurns (length t.slaves) (frames_to_ready t w) events

-- slave s and the n - 1 behind it
abbrev pub servings : ℕ → ℕ → List Event
servings s zero = []
servings s (suc n) = Serve s ∷ servings (s + 1) n

-- The order in which a script's `ready` makes these events: each slave serves when the frame has passed all.
abbrev pub turn_of : ℕ → List Event
turn_of n = StartNext ∷ (replicate n (Pass 0) ++ (servings 0 n ++ (Return 0 ∷ [])))

abbrev pub TurnLaw : Type 0
TurnLaw = (n : ℕ) → IsTurn n (turn_of n)

-- ---- from where

-- A new world of a table that `compile` accepts, with devices of its types, came to w by some events. Their parameters agree with what
-- the plan assigns. No frame is on its way; the next one is the first of a start-up, since none was sent yet, or the last start-up failed
-- or was stopped (`Failed Lost`); and there are numbers for all.
pub record IsToStart (t : Contents) (w : WorldState) : Type 0 where
  pub identities : List Identity
  pub first : WorldState
  pub new : IsNew t identities first
  pub devices : AreOfTypes t identities
  pub agree : AllAgree (plan_of t).slaves
  pub events : List Event
  pub made : ℕ
  pub reached : IsRun first events w made
  pub no_frame : (k : ℕ) → flight_at w k ≡ None
  pub begins : (w.start ≡ begun (plan_of t).slaves (feeds_of (plan_of t)) w.start.next) ⊎ ((failure : StartError) × (w.start.phase ≡ Failed failure))
  pub numbers : w.start.next + frames_to_ready t w ≤ last_number

-- A new world itself is one.
abbrev pub NewLaw : Type 0
NewLaw = (t : Contents) (identities : List Identity) (w : WorldState) → IsNew t identities w → AreOfTypes t identities → AllAgree (plan_of t).slaves → IsToStart t w

-- A world that is made of a machine is one: its slaves are the table's, and those are of their types.
abbrev pub MachineLaw : Type 0
MachineLaw = (t : Contents) (w : WorldState) → IsOfMachine t w → AllAgree (plan_of t).slaves → IsToStart t w

-- ---- where to

abbrev pub rising_of : WorldState → Rising
rising_of w = record { start = w.start; slaves = w.slaves }

-- All of the events were made. The start-up is Ready after `frames_to_ready` frames, and every slave is in OP and works as planned; no frame is on its way, no cycle is open, and the master's next number is behind those of the start-up.
pub record IsBroughtUp (t : Contents) (w : WorldState) (events : List Event) (v : WorldState) (made : ℕ) : Type 0 where
  pub all_made : made ≡ length events
  pub up : is_up v.start ≡ true
  pub works : IsUpAndWorks (plan_of t).slaves (w.start.next + frames_to_ready t w) (rising_of v)
  pub no_frame : (k : ℕ) → flight_at v k ≡ None
  pub no_cycle : v.master.cycle ≡ None
  pub next_number : v.master.next ≡ max w.master.next v.start.next
