-- A world since it was made: a start-up until it is Ready, then the plain machine until it is stopped, and so on.
use Rattle.std.specs.Prelude.{ℕ, ◌+◌, ◌<◌, ◌≡◌, ◌⊎◌, List, [], ◌∷◌, ◌++◌, length, map, set, replicate, Bool, true, false, if◌then◌else◌, None, option_map}
use Rattle.ec_device.specs.declared.slave_type.Identity.{Identity}
use Rattle.ec_cycle.specs.Master.{new_master}
use Rattle.ec_al.specs.declared.state.State.{State}
use Rattle.ec_al.specs.declared.state.State.TheVariants.{Init, PreOp, SafeOp, Op}
use Rattle.ec_slave.specs.State.{SlaveState, manager_at}
use Rattle.ec_table.specs.Contents.{Contents}
use Rattle.ec_link.specs.Faults.{compile_fault}
use Rattle.ec_link.specs.Plan.{PlanState, plan_of}
use Rattle.ec_link.specs.Meaning.{meaning}
use Rattle.ec_link.specs.Usable.{IsUsable}
use Rattle.ec_start.specs.Running.{begun}
use Rattle.ec_start.specs.Feeding.{feeds_of}
use Rattle.ec_sync.specs.Buffer.{Buffer, emptied_buffer}
use Rattle.ec_bringup.specs.SwitchedOn.{AreIdentities, switched_on}
use Rattle.ec_bringup.specs.Standing.{unviewed}
use Rattle.ec_bringup.specs.Starting.{trouble_at}
use Rattle.ec_bringup.specs.Runs.{AreStartable, flags_sent}
use Rattle.ec_world.specs.declared.event.Event.{Event}
use Rattle.ec_world.specs.declared.event.Event.TheVariants.{StartNext, Set, Begin, Pass, Lose, Return, Close, Serve, AppPut, AppGet, Fault, Reset as ResetSlave, Stop}
use Rattle.ec_world.specs.Plain.{Plain, PlainSlave, Health, Working, Faulted, Reset, plain_slave, run}
use Rattle.ec_world.specs.World.{WorldState, is_up, resumed, IsStep}
use Rattle.ec_world.specs.Refines.{Refines, said}
use Rattle.ec_world.specs.Laws.{IsRun, IsUnstopped}
use Rattle.ec_table.specs.Sound as table

-- ---- the flags

-- The flags after an event that was made: the first frame of a start-up clears them, in a new world and after a failure, and a
-- fault or a reset sets its slave's.
abbrev pub flags_after : WorldState → Event → List Bool → List Bool
flags_after w StartNext flags = flags_sent (resumed w.start w.start.phase) flags
flags_after w (Set v x) flags = flags
flags_after w Begin flags = flags
flags_after w (Pass k) flags = flags
flags_after w (Lose k) flags = flags
flags_after w (Return k) flags = flags
flags_after w Close flags = flags
flags_after w (Serve s) flags = flags
flags_after w (AppPut s i x) flags = flags
flags_after w (AppGet s i) flags = flags
flags_after w (Fault s) flags = set flags s true
flags_after w (ResetSlave s) flags = set flags s true
flags_after w Stop flags = flags

-- ---- what a world is when its start-up is ready

abbrev pub health_of : State → Health
health_of Init = Reset
health_of PreOp = Reset
health_of SafeOp = Faulted
health_of Op = Working

abbrev pub plain_slave_of : SlaveState → PlainSlave
plain_slave_of s = record { health = health_of s.al.state; outputs = (manager_at s.managers 2).buffer; inputs = (manager_at s.managers 3).buffer }

-- zeros, and no draft; a reader's view may be open
abbrev pub ShowsZeros : Buffer → Type 0
ShowsZeros b = unviewed b ≡ emptied_buffer (length b.published)

-- its image and its number, no cycle, no frame, each slave's own values, and what the last report said before a stop
abbrev pub plain_of : WorldState → Plain
plain_of w = record {
  outputs = w.master.outputs;
  inputs = w.master.inputs;
  next = w.master.next;
  cycle = None;
  closed = option_map said w.report;
  got = w.got;
  slaves = map plain_slave_of w.slaves;
  slots = map (λ o. None) w.slots;
}

-- It shows this. Each slave that doesn't work had a fault or a reset since the first frame of that start-up was sent. The outputs
-- of each slave are zeros.
pub record IsReadyWorld (flags : List Bool) (w : WorldState) : Type 0 where
  pub shows : Refines w (plain_of w)
  pub told : (i : ℕ) → i < length w.plan.slaves → ((plain_slave (plain_of w) i).health ≡ Working) ⊎ (trouble_at flags i ≡ true)
  pub zeros : (i : ℕ) → i < length w.plan.slaves → ShowsZeros (plain_slave (plain_of w) i).outputs

-- ---- a new world

abbrev pub slot_count : ℕ
slot_count = 64

abbrev pub new_world : PlanState → List Identity → WorldState
new_world plan identities = record {
  plan = plan;
  start = begun plan.slaves (feeds_of plan) 0;
  master = new_master plan;
  slaves = switched_on plan.slaves identities;
  slots = replicate slot_count None;
  got = None;
  report = None;
}

-- the world is a new one, of a table that `compile` accepts
pub record IsNew (t : Contents) (identities : List Identity) (w : WorldState) : Type 0 where
  pub sound : table.IsSound t
  pub accepted : compile_fault t ≡ None
  pub one_each : length identities ≡ length t.slaves
  pub is : w ≡ new_world (plan_of t) identities

-- the world is a new one of a machine: its slaves have the identities that the table states
pub record IsOfMachine (t : Contents) (w : WorldState) : Type 0 where
  pub identities : List Identity
  pub shown : AreIdentities t identities
  pub new : IsNew t identities w

-- no slave had a fault or a reset yet
abbrev pub no_trouble : WorldState → List Bool
no_trouble w = replicate (length w.plan.slaves) false

-- ---- a whole run

-- the flags at the end of a run
abbrev pub flags_of : (old : WorldState) (es : List Event) (new : WorldState) (made : ℕ) → IsRun old es new made → List Bool → List Bool
flags_of old [] new made h flags = flags
flags_of old (e ∷ es) new made h flags = flags_of h.0 es new h.2 h.4 (if h.1 then flags_after old e flags else flags)

-- the last event that made it ready, the world then, and the run after it, in which no stop was made
pub record HasStarted (old : WorldState) (es : List Event) (new : WorldState) (made : ℕ) (flags : List Bool) : Type 0 where
  pub before : List Event
  pub event : Event
  pub after : List Event
  pub split : es ≡ before ++ (event ∷ after)
  pub mid : WorldState
  pub first : ℕ
  pub to_mid : IsRun old before mid first
  pub not_yet : is_up mid.start ≡ false
  pub ready : WorldState
  pub step : IsStep mid event ready true
  pub plan_is : ready.plan ≡ old.plan
  pub is_ready : IsReadyWorld (flags_after mid event (flags_of old before mid first to_mid flags)) ready
  pub unstopped : IsUnstopped ready new
  pub shown : Refines new (run (meaning ready.plan) (plain_of ready) after).plain
  pub made_is : made ≡ first + 1 + (run (meaning ready.plan) (plain_of ready) after).made

-- a run up to its last event: still starting, or stopped, or it started on the way
pub data RunOutcome (old : WorldState) (es : List Event) (new : WorldState) (made : ℕ) (flags : List Bool) : Type 0 where
  NotYet : is_up new.start ≡ false → ((p : Plain) → Refines new p → ⊥) → RunOutcome old es new made flags
  Started : HasStarted old es new made flags → RunOutcome old es new made flags

-- A new world of a usable plan that can be started up, over every list of events: nothing is shown until the start-up is ready, nor
-- behind a stop until the next one is. Then the world refines the run of the plain machine, beginning with the state that it is ready in.
abbrev pub WholeLaw : Type 0
WholeLaw =
    (plan : PlanState) (identities : List Identity) → IsUsable plan → AreStartable plan.slaves → length identities ≡ length plan.slaves
    → (es : List Event) (w : WorldState) (made : ℕ) → IsRun (new_world plan identities) es w made
    → RunOutcome (new_world plan identities) es w made (replicate (length plan.slaves) false)

-- As above, for a table that `compile` accepts.
abbrev pub CompiledLaw : Type 0
CompiledLaw =
    (t : Contents) (identities : List Identity) → table.IsSound t → compile_fault t ≡ None → length identities ≡ length t.slaves
    → (es : List Event) (w : WorldState) (made : ℕ) → IsRun (new_world (plan_of t) identities) es w made
    → RunOutcome (new_world (plan_of t) identities) es w made (replicate (length (plan_of t).slaves) false)
