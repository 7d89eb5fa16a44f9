-- What the code of a world says of the frames of a cycle, and of a payload that comes back.
use Rattle.std.specs.Prelude.{ℕ, ◌<◌, ◌≤◌, ◌≡◌, List, [], length, get_or, Bool, Option, Some, None}
use Rattle.ec_frame.specs.Frame.{Payload, IsFrame}
use Rattle.ec_link.specs.Plan.{PlanState}
use Rattle.ec_link.specs.Usable.{IsUsable}
use Rattle.ec_start.specs.Running.{StartState, IsStartTaken}
use Rattle.ec_start.specs.Feeding.{feeds_of}
use Rattle.ec_cycle.specs.Master.{MasterState, OpenCycle, IsTaken}
use Rattle.ec_world.specs.World.{ByStart, awaits, ready_with}

-- the plan can be used, and the start-up and the master are of it
pub record AreOfPlan (plan : PlanState) (s : StartState) (m : MasterState) : Type 0 where
  pub usable : IsUsable plan
  pub start : s.plan ≡ plan.slaves
  pub feeds : s.feeds ≡ feeds_of plan
  pub master : m.plan ≡ plan

-- the frames of a cycle that is open
abbrev pub cycle_frames : Option OpenCycle → List (List ℕ)
cycle_frames None = []
cycle_frames (Some c) = c.frames

-- each has room in a slot
abbrev pub FitSlots : List (List ℕ) → Type 0
FitSlots frames = (k : ℕ) → k < length frames → length (get_or frames k []) ≤ 1472

-- each is a frame of datagrams
abbrev pub AreFrames : List (List ℕ) → Type 0
AreFrames frames = (k : ℕ) → k < length frames → (p : Payload) × IsFrame (get_or frames k []) p

-- a payload came back to the start-up; if the start-up is Ready then, the master becomes ready
pub record IsAnswered (s : StartState) (m : MasterState) (payload : List ℕ) (t : StartState) (n : MasterState) : Type 0 where
  pub is_accepted : Bool
  pub start : IsStartTaken s payload is_accepted t
  pub master : n ≡ ready_with m t

-- or to the master
pub record IsTakenIn (s : StartState) (m : MasterState) (payload : List ℕ) (t : StartState) (n : MasterState) : Type 0 where
  pub is_accepted : Bool
  pub master : IsTaken m payload is_accepted n
  pub start : t ≡ s

abbrev pub IsHandedIn : StartState → MasterState → List ℕ → StartState → MasterState → Type 0
IsHandedIn s m payload t n = ByStart (awaits s) (IsAnswered s m payload t n) (IsTakenIn s m payload t n)
