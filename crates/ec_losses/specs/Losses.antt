-- A cycle over a wire on which frames may be lost, beside a cycle of the world.
use Rattle.std.specs.Prelude.{◌≡◌, ℕ, List, [], ◌∷◌, ◌++◌, Bool, true, false, Option, Some, None, Ok}
use Rattle.ec_cycle.specs.Closing.{ReportState}
use Rattle.ec_cycle.specs.Master.{MasterState, IsTaken}
use Rattle.ec_wire.specs.Wires.{WireState}
use Rattle.ec_wire.specs.Losing.{IsLossyRun}
use Rattle.ec_world.specs.declared.event.Event.{Event}
use Rattle.ec_world.specs.declared.event.Event.TheVariants.{Begin, Pass, Lose, Return, Close, Serve, AppPut, AppGet, Fault, Reset}
use Rattle.ec_world.specs.World.{Flight, IsStep, WorldState, flight_at, is_up}

-- ---- what a master keeps

abbrev pub if_kept : Bool → List ℕ → List (List ℕ) → List (List ℕ)
if_kept true p more = p ∷ more
if_kept false p more = more

-- A master is given payloads one after another, and keeps these of them.
abbrev pub Keeps : MasterState → (given kept : List (List ℕ)) → MasterState → Type 0
Keeps m [] kept n = (kept ≡ []) × (n ≡ m)
Keeps m (p ∷ ps) kept n = (is_accepted : Bool) × (x : MasterState) × (more : List (List ℕ)) × IsTaken m p is_accepted x × (kept ≡ if_kept is_accepted p more) × Keeps x ps more n

-- ---- a cycle of the world

-- a frame passes a slave, is lost or comes back, or a slave does something: the master begins, closes and sets nothing
abbrev pub is_passage : Event → Bool
is_passage (Pass k) = true
is_passage (Lose k) = true
is_passage (Return k) = true
is_passage (Serve s) = true
is_passage (AppPut s i x) = true
is_passage (AppGet s i) = true
is_passage (Fault s) = true
is_passage (Reset s) = true
is_passage e = false

abbrev pub bytes_in : Option Flight → List (List ℕ)
bytes_in None = []
bytes_in (Some f) = f.bytes ∷ []

-- the payload that an event brings back to the master
abbrev pub brought : WorldState → Event → List (List ℕ)
brought w (Return k) = bytes_in (flight_at w k)
brought w e = []

-- Such events are made one after another, and bring these payloads back.
abbrev pub Brings : WorldState → List Event → (back : List (List ℕ)) → WorldState → Type 0
Brings w [] back v = (back ≡ []) × (v ≡ w)
Brings w (e ∷ es) back v = (x : WorldState) × (more : List (List ℕ)) × (is_passage e ≡ true) × IsStep w e x true × (back ≡ brought w e ++ more) × Brings x es more v

-- A world that is Ready begins a cycle, such events are made, and it is closed. Its master kept these payloads; whatever else was sent is
-- lost, or still under way.
pub record IsWorldCycle (w : WorldState) (kept : List (List ℕ)) (v : WorldState) : Type 0 where
  pub up : is_up w.start ≡ true
  pub begun : WorldState
  pub begins : IsStep w Begin begun true
  pub events : List Event
  pub back : List (List ℕ)
  pub last : WorldState
  pub brings : Brings begun events back last
  pub master : MasterState
  pub keeps : Keeps begun.master back kept master
  pub closes : IsStep last Close v true

-- ---- and one over a wire

-- A master runs a cycle over a wire, which has no fault, and keeps these payloads.
pub record IsWireCycle (m : MasterState) (kept : List (List ℕ)) (report : ReportState) (after : MasterState) : Type 0 where
  pub old : WireState
  pub new : WireState
  pub run : IsLossyRun m old new (Ok report) after
  pub keeps : Keeps run.begun run.heard.got kept run.last

-- If both masters keep the same payloads, both cycles end alike.
abbrev pub LossesAreLosses : Type 0
LossesAreLosses =
    (w v : WorldState) (kept : List (List ℕ)) (report : ReportState) (after : MasterState)
    → IsWorldCycle w kept v → IsWireCycle w.master kept report after → (v.master ≡ after) × (v.report ≡ Some report)
