-- A cycle over a wire on which frames may be lost. A choice of this project: a part that doesn't come back while the wire's patience
-- lasts is lost. The cycle is closed all the same.
use Rattle.std.specs.Prelude.{ℕ, ◌<◌, ◌≤◌, ◌≡◌, List, [], length, take, false, Result}
use Rattle.ec_cycle.specs.Closing.{ReportState}
use Rattle.ec_cycle.specs.Master.{MasterState, OpenCycle, Begun}
use Rattle.ec_wire.specs.declared.error.RunError.{RunError}
use Rattle.ec_wire.specs.Wires.{WireState, Carries, is_fault}
use Rattle.ec_wire.specs.Running.{AreTaken, IsEnded, frames_of}

-- the most payloads that a cycle hears
abbrev pub max_heard : ℕ
max_heard = 65536

-- What an open cycle sent and heard, up to the first fault. It sends its frames in order, and then takes what comes.
pub record IsHeard (begun last : MasterState) (old new : WireState) : Type 0 where
  -- how many frames were sent, and what was received
  pub count : ℕ
  pub got : List (List ℕ)
  pub carried : Carries old new (take count (frames_of begun.cycle)) got
  pub taken : AreTaken begun got last
  pub few_sent : count ≤ length begun.plan.parts
  pub few_heard : length got ≤ max_heard
  -- nothing is received before all frames are sent
  pub sent_first : count < length begun.plan.parts → got ≡ []
  pub all_sent : is_fault old new ≡ false → count ≡ length begun.plan.parts

-- A cycle is begun, heard and ended: closed, or dropped after a fault of the wire.
pub record IsLossyRun (master : MasterState) (old new : WireState) (answer : Result ReportState RunError) (after : MasterState) : Type 0 where
  pub cycle : OpenCycle
  pub begun : MasterState
  pub last : MasterState
  pub begins : Begun master begun cycle
  pub heard : IsHeard begun last old new
  pub ends : IsEnded last old new answer after
