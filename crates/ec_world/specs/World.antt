-- The world: a start-up, a master, the slaves, and the frames between them; and what each event does to it.
use Rattle.std.specs.Prelude.{ℕ, ◌+◌, ◌≡◌, ◌==◌, ◌&&◌, ◌||◌, not, List, [], ◌∷◌, length, map, get_or, set, Bool, true, false, if◌then◌else◌, nat_lt, nat_le, max, Option, Some, None, is_some, is_none, option_map, slice_get}
use Rattle.ec_device.specs.Types.{plain_kind, device_identity}
use Rattle.ec_sync.specs.Buffer.{Got}
use Rattle.ec_al.specs.Al as al
use Rattle.ec_frame.specs.Frame.{IsFrame}
use Rattle.ec_frame.specs.Building.{bare_payload}
use Rattle.ec_slave.specs.State.{SlaveState, power_on}
use Rattle.ec_slave.specs.Serving.{served}
use Rattle.ec_slave.specs.Faulting.{faulted}
use Rattle.ec_start.specs.Actions.{frame_of}
use Rattle.ec_start.specs.Running.{StartState, action_of, sending, begun, given_up, IsStartTaken, last_number}
use Rattle.ec_start.specs.declared.phase.Phase.{Phase}
use Rattle.ec_start.specs.declared.phase.Phase.TheVariants.{Idle, Sent, Ready, Failed}
use Rattle.ec_ring.specs.Rings.{IsPassedAt}
use Rattle.ec_slave.specs.Application.{input_put, output_got, output_taken}
use Rattle.ec_link.specs.Plan.{PlanState}
use Rattle.ec_cycle.specs.Closing.{ReportState, report_of, nones}
use Rattle.ec_cycle.specs.Master.{MasterState, readied, OpenCycle, holds_value, variable_set, cycle_limit, Begun, IsTaken, closed}
use Rattle.ec_world.specs.declared.event.Event.{Event}
use Rattle.ec_world.specs.declared.event.Event.TheVariants.{StartNext, Set, Begin, Pass, Lose, Return, Close, Serve, AppPut, AppGet, Fault, Reset as ResetSlave, Stop}
use Rattle.ec_world.specs.declared.progress.Progress.{Progress}
use Rattle.ec_world.specs.Plain.{may_pass, may_return, filled}

-- ---- what it is

-- a frame in a slot: its bytes, and how far it is
pub record Flight : Type 0 where
  pub bytes : List ℕ
  pub number : ℕ
  pub part : ℕ
  pub passed : ℕ

abbrev pub flight_progress : Flight → Progress
flight_progress f = record { number = f.number; part = f.part; passed = f.passed }

abbrev pub flights_progress : List (Option Flight) → List (Option Progress)
flights_progress slots = map (λ o. option_map flight_progress o) slots

-- the start-up ended Ready
abbrev pub phase_ready : Phase → Bool
phase_ready Idle = false
phase_ready (Sent number) = false
phase_ready Ready = true
phase_ready (Failed failure) = false

abbrev pub is_up : StartState → Bool
is_up s = phase_ready s.phase

-- a frame of it is outstanding
abbrev pub phase_awaits : Phase → Bool
phase_awaits Idle = false
phase_awaits (Sent number) = true
phase_awaits Ready = false
phase_awaits (Failed failure) = false

abbrev pub awaits : StartState → Bool
awaits s = phase_awaits s.phase

pub record WorldState : Type 0 where
  pub plan : PlanState
  pub start : StartState
  pub master : MasterState
  pub slaves : List SlaveState
  pub slots : List (Option Flight)
  -- the byte that an application read last
  pub got : Option ℕ
  -- the report of the last closed cycle
  pub report : Option ReportState

abbrev pub no_slave : SlaveState
no_slave = power_on plain_kind (device_identity plain_kind.device 0)

abbrev pub slave_of : WorldState → ℕ → SlaveState
slave_of w s = get_or w.slaves s no_slave

abbrev pub flight_at : WorldState → ℕ → Option Flight
flight_at w k = get_or w.slots k None

abbrev pub with_slave : WorldState → ℕ → SlaveState → WorldState
with_slave w s x = record w { slaves = set w.slaves s x }

-- ---- when an event can be made

abbrev pub is_slave : WorldState → ℕ → Bool
is_slave w s = nat_lt s (length w.slaves)

-- a cycle begins under a Ready start-up
abbrev pub can_begin : WorldState → Bool
can_begin w = is_up w.start && (w.master.is_ready && (is_none w.master.cycle && (nat_le (length w.plan.parts) (nones w.slots) && nat_lt w.master.next cycle_limit)))

-- a start-up that isn't Ready goes on, or begins again after a failure, if nothing is on its way
abbrev pub can_start : WorldState → Bool
can_start w = not (is_up w.start) && (not (awaits w.start) && ((nones w.slots == length w.slots) && nat_lt w.start.next last_number))

-- a Ready master gives up, if no cycle is open and nothing is on its way
abbrev pub can_stop : WorldState → Bool
can_stop w = is_up w.start && (is_none w.master.cycle && (nones w.slots == length w.slots))

abbrev pub can_happen : WorldState → Event → Bool
can_happen w StartNext = can_start w
can_happen w (Set v x) = holds_value x (slice_get w.master.plan.variables v)
can_happen w Begin = can_begin w
can_happen w (Pass k) = may_pass (length w.slaves) (flights_progress w.slots) (option_map flight_progress (flight_at w k))
can_happen w (Lose k) = is_some (flight_at w k)
can_happen w (Return k) = may_return (length w.slaves) (option_map flight_progress (flight_at w k))
can_happen w Close = is_some w.master.cycle || awaits w.start
can_happen w (Serve s) = is_slave w s
can_happen w (AppPut s i x) = is_slave w s && is_some (input_put (slave_of w s) i x)
can_happen w (AppGet s i) = is_slave w s && is_some (output_got (slave_of w s) i)
can_happen w (Fault s) = is_slave w s && al.is_operational (slave_of w s).al.state
can_happen w (ResetSlave s) = is_slave w s
can_happen w Stop = can_stop w

-- ---- and what it does

abbrev pub flights_from : ℕ → ℕ → List (List ℕ) → List Flight
flights_from number k [] = []
flights_from number k (b ∷ bs) = record { bytes = b; number = number; part = k; passed = 0 } ∷ flights_from number (k + 1) bs

-- the master begins a cycle, and its frames go into the slots
pub record Begins (old new : WorldState) : Type 0 where
  pub cycle : OpenCycle
  pub master : Begun old.master new.master cycle
  pub is : new ≡ record old { master = new.master; slots = filled (flights_from old.master.next 0 cycle.frames) old.slots }

-- the frame in slot k passes its next slave, as the ring passes a frame
pub record Passes (old : WorldState) (k : ℕ) (new : WorldState) : Type 0 where
  pub flight : Flight
  pub there : flight_at old k ≡ Some flight
  pub bytes : List ℕ
  pub passed : IsPassedAt old.slaves flight.passed (slave_of old flight.passed) flight.bytes new.slaves bytes
  pub is : new ≡ record old { slaves = new.slaves; slots = set old.slots k (Some (record flight { bytes = bytes; passed = flight.passed + 1 })) }

-- the frame in slot k comes back to the master
pub record Returns (old : WorldState) (k : ℕ) (new : WorldState) : Type 0 where
  pub flight : Flight
  pub there : flight_at old k ≡ Some flight
  pub is_accepted : Bool
  pub master : IsTaken old.master flight.bytes is_accepted new.master
  pub is : new ≡ record old { master = new.master; slots = set old.slots k None }

pub record Closes (old new : WorldState) : Type 0 where
  pub cycle : OpenCycle
  pub is_open : old.master.cycle ≡ Some cycle
  pub is : new ≡ record old { master = closed old.master cycle; report = Some (report_of old.master.plan cycle.kept) }

pub record Puts (old : WorldState) (s i x : ℕ) (new : WorldState) : Type 0 where
  pub slave : SlaveState
  pub put : input_put (slave_of old s) i x ≡ Some slave
  pub is : new ≡ with_slave old s slave

pub record Gets (old : WorldState) (s i : ℕ) (new : WorldState) : Type 0 where
  pub got : Got
  pub read : output_got (slave_of old s) i ≡ Some got
  pub is : new ≡ record (with_slave old s (output_taken (slave_of old s) (Some got))) { got = Some got.byte }

-- ---- the events of a start-up

-- after a failure a start-up begins again, with the next number
abbrev pub resumed : StartState → Phase → StartState
resumed s Idle = s
resumed s (Sent number) = s
resumed s Ready = s
resumed s (Failed failure) = begun s.plan s.feeds s.next

-- its next frame, with nothing behind the datagrams, goes into the lowest slot
pub record Sends (old new : WorldState) : Type 0 where
  pub bytes : List ℕ
  pub spelled : IsFrame bytes (bare_payload (frame_of (action_of (resumed old.start old.start.phase)) old.start.next))
  pub is : new ≡ record old {
    start = sending (resumed old.start old.start.phase);
    slots = filled (record { bytes = bytes; number = old.start.next; part = 0; passed = 0 } ∷ []) old.slots;
  }

-- a master becomes ready if its start-up is Ready
abbrev pub ready_with : MasterState → StartState → MasterState
ready_with m s = if is_up s then readied m s.next else m

-- the frame in slot k comes back to the start-up; if the start-up is Ready then, the master becomes ready
pub record StartReturns (old : WorldState) (k : ℕ) (new : WorldState) : Type 0 where
  pub flight : Flight
  pub there : flight_at old k ≡ Some flight
  pub is_accepted : Bool
  pub start : IsStartTaken old.start flight.bytes is_accepted new.start
  pub is : new ≡ record old { start = new.start; master = ready_with old.master new.start; slots = set old.slots k None }

-- the start-up is given up
abbrev pub GivesUp : WorldState → WorldState → Type 0
GivesUp old new = new ≡ record old { start = given_up old.start }

-- A Ready start-up is given up as one that sent no frame yet. The next one begins behind the numbers of its frames and of the cycles.
abbrev pub stopped : StartState → MasterState → StartState
stopped s m = given_up (begun s.plan s.feeds (max s.next m.next))

-- an event goes to the start-up while it awaits a frame, else to the master
abbrev pub ByStart : Bool → Type 0 → Type 0 → Type 0
ByStart true x y = x
ByStart false x y = y

abbrev pub Happens : WorldState → Event → WorldState → Type 0
Happens old StartNext new = Sends old new
Happens old (Set v x) new = new ≡ record old { master = variable_set old.master v x }
Happens old Begin new = Begins old new
Happens old (Pass k) new = Passes old k new
Happens old (Lose k) new = new ≡ record old { slots = set old.slots k None }
Happens old (Return k) new = ByStart (awaits old.start) (StartReturns old k new) (Returns old k new)
Happens old Close new = ByStart (awaits old.start) (GivesUp old new) (Closes old new)
Happens old (Serve s) new = new ≡ with_slave old s (served (slave_of old s))
Happens old (AppPut s i x) new = Puts old s i x new
Happens old (AppGet s i) new = Gets old s i new
Happens old (Fault s) new = new ≡ with_slave old s (faulted (slave_of old s))
Happens old (ResetSlave s) new = new ≡ with_slave old s (power_on (slave_of old s).kind (slave_of old s).identity)
Happens old Stop new = new ≡ record old { start = stopped old.start old.master }

-- a step: what can't be made changes nothing
pub record IsStep (old : WorldState) (event : Event) (new : WorldState) (made : Bool) : Type 0 where
  pub can : made ≡ can_happen old event
  pub happens : made ≡ true → Happens old event new
  pub refused : made ≡ false → new ≡ old
