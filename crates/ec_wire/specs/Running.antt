-- A cycle over a wire. A choice of this project: a fault of the wire ends the cycle, and nothing of it is taken.
use Rattle.std.specs.Prelude.{ℕ, ◌+◌, ◌*◌, ◌<◌, ◌≤◌, ◌≡◌, ◌⊎◌, List, [], ◌∷◌, length, take, Bool, true, false, Option, Some, None, Result, Ok, Err}
use Rattle.ec_cycle.specs.Closing.{ReportState}
use Rattle.ec_cycle.specs.Master.{MasterState, OpenCycle, Begun, IsTaken, IsClosed, missing_of, abandoned}
use Rattle.ec_wire.specs.declared.error.RunError.{RunError}
use Rattle.ec_wire.specs.declared.error.RunError.TheVariants.{Refused, Wire}
use Rattle.ec_wire.specs.Wires.{WireState, Carries, is_fault}

-- the frames of the open cycle, part by part
abbrev pub frames_of : Option OpenCycle → List (List ℕ)
frames_of None = []
frames_of (Some c) = c.frames

-- Payloads were given to `take` one after the other, each while a part was missing.
abbrev pub AreTaken : MasterState → List (List ℕ) → MasterState → Type 0
AreTaken old [] new = new ≡ old
AreTaken old (p ∷ ps) new = (0 < missing_of old.cycle) × ((is_accepted : Bool) × (m : MasterState) × IsTaken old p is_accepted m × AreTaken m ps new)

-- the most payloads that a cycle of so many parts receives
abbrev pub max_received : ℕ → ℕ
max_received parts = 2 * parts + 64

-- What an open cycle sent and received, up to the first fault. It sends its frames in order, and then receives payloads until all
-- parts are kept or the most were received.
pub record IsExchanged (begun last : MasterState) (old new : WireState) : Type 0 where
  -- how many frames were sent, and what was received
  pub count : ℕ
  pub got : List (List ℕ)
  pub carried : Carries old new (take count (frames_of begun.cycle)) got
  pub taken : AreTaken begun got last
  pub few_sent : count ≤ length begun.plan.parts
  pub few_received : length got ≤ max_received (length begun.plan.parts)
  -- nothing is received before all frames are sent
  pub sent_first : count < length begun.plan.parts → got ≡ []
  pub all_sent : is_fault old new ≡ false → count ≡ length begun.plan.parts
  pub all_received : is_fault old new ≡ false → (missing_of last.cycle ≡ 0) ⊎ (length got ≡ max_received (length begun.plan.parts))

-- How a cycle ends after its exchange: it is closed, or, after a fault of the wire, dropped.
abbrev pub IsEnded : MasterState → WireState → WireState → Result ReportState RunError → MasterState → Type 0
IsEnded last old new (Ok report) after = (is_fault old new ≡ false) × IsClosed last after report
IsEnded last old new (Err Wire) after = (is_fault old new ≡ true) × (after ≡ abandoned last)
IsEnded last old new (Err (Refused error)) after = ⊥

-- A cycle is begun, exchanged and ended.
pub record IsRun (master : MasterState) (old new : WireState) (answer : Result ReportState RunError) (after : MasterState) : Type 0 where
  pub cycle : OpenCycle
  pub begun : MasterState
  pub last : MasterState
  pub begins : Begun master begun cycle
  pub exchanged : IsExchanged begun last old new
  pub ends : IsEnded last old new answer after
