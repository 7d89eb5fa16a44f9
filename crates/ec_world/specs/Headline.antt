-- The headline: what is promised of a segment under this master, over what a world's calls return. Nothing here is about logical
-- addresses, FMMUs, registers, datagrams or how counters come about. Events and their order are those of the list that the calls
-- of `World` were given; an event is made if `World::step` returned true.
--
-- The words of other pages. Calls of `World` return: `IsNew` (`new`, Whole), `IsStep` and `WorldState` (`step`, World), `IsRun`
-- (`run`, Laws), `slave_of` (`slave`), `is_up` (`is_ready`), `flight_at` and `flight_progress` (`progress`), `value_at` (`input`,
-- ec_cycle's Master), `outputs_shown` (`outputs`, ec_slave's Application), `ReportState` (`report`, ec_cycle's Closing). Calls of a
-- plan return: `plan_of` (`compile`), `part_of`, `part_at` (`unit_of_part`), `predicted` (all in ec_link's Plan and Shares).
-- To look up:
-- * which bits a table links: `IsLinked` (ec_link's LinkRuns), and in what order the bits of a slave's objects are counted:
--   `object_bits` (ec_table's Objects, ec_device's Objects), over a table's rows (`Contents`);
-- * when a start-up is at its first frame: `is_beginning` (ec_bringup's Runs) and `resumed` (World);
-- * what a slave, its sync managers and an open cycle are as values: `SlaveState`, `SyncManager`, `Buffer`, `OpenCycle`,
--   `ReturnedPart`; and of bits in bytes `bit`, `bit_at` and `bytes_of_bits`.
use Rattle.std.specs.Prelude.{ℕ, ◌+◌, ◌<◌, ◌≡◌, ◌≢◌, ◌⊎◌, ◌==◌, ◌&&◌, List, [], ◌∷◌, ◌++◌, length, get_or, set, Bool, true, false, Option, Some, None, option_map, option_and_then, slice_get}
use Rattle.std.specs.Option.{option_map_or}
use Rattle.std.specs.List.{Contains}
use Rattle.std.specs.Int.{bit_at}
use Rattle.ec_bits.specs.Bits.{bit, bytes_of_bits}
use Rattle.ec_device.specs.declared.slave_type.Identity.{Identity}
use Rattle.ec_sync.specs.Buffer.{Buffer}
use Rattle.ec_sync.specs.SyncManager.{SyncManager}
use Rattle.ec_al.specs.declared.state.State.{State}
use Rattle.ec_al.specs.declared.state.State.TheVariants.{Init, SafeOp, Op}
use Rattle.ec_slave.specs.State.{SlaveState}
use Rattle.ec_slave.specs.Application.{outputs_shown}
use Rattle.ec_table.specs.declared.rows.Direction.TheVariants.{Out, In}
use Rattle.ec_table.specs.declared.rows.SlaveRow.{SlaveRow}
use Rattle.ec_table.specs.Contents.{Contents}
use Rattle.ec_table.specs.Objects.{object_bits}
use Rattle.ec_link.specs.LinkRuns.{IsLinked}
use Rattle.ec_link.specs.Shares.{predicted}
use Rattle.ec_link.specs.Plan.{plan_of, part_of, part_at}
use Rattle.ec_cycle.specs.Closing.{ReturnedPart, ReportState}
use Rattle.ec_cycle.specs.Master.{OpenCycle, value_at}
use Rattle.ec_bringup.specs.Runs.{is_beginning}
use Rattle.ec_world.specs.declared.event.Event.{Event}
use Rattle.ec_world.specs.declared.event.Event.TheVariants.{StartNext, Set, Begin, Pass, Lose, Return, Close, Serve, AppPut, AppGet, Fault, Reset, Stop}
use Rattle.ec_world.specs.declared.progress.Progress.{Progress}
use Rattle.ec_world.specs.World.{WorldState, slave_of, flight_at, flight_progress, is_up, resumed, IsStep}
use Rattle.ec_world.specs.Laws.{IsRun}
use Rattle.ec_world.specs.Whole.{IsNew}

-- ---- 1. What the calls show
-- A world is looked at through its calls, and its slaves by what they show: the bits of a variable, the bits of the outputs that
-- a slave has published, the bits of the inputs that its application has published, its state, and where the frame in a slot is.

-- `World::input`: the value of variable x, and bit b of it
abbrev pub variable : WorldState → ℕ → ℕ
variable w x = value_at w.master (slice_get w.master.plan.variables x)

abbrev pub variable_bit : WorldState → ℕ → ℕ → Bool
variable_bit w x b = bit_at (variable w x) b == 1

-- the buffer of sync manager n of a slave, and what was published last in it; sync manager 2 has the outputs, and 3 the inputs
abbrev pub buffer_of : SlaveState → ℕ → Option Buffer
buffer_of s n = option_map (λ (m : SyncManager). m.buffer) (slice_get s.managers n)

abbrev pub published : SlaveState → ℕ → List ℕ
published s n = option_map_or (λ (b : Buffer). b.published) (buffer_of s n) []

-- `World::outputs`: bit o of the outputs that slave s published last
abbrev pub output_bit : WorldState → ℕ → ℕ → Bool
output_bit w s o = bit (outputs_shown (slave_of w s)) o

-- bit o of the inputs that the application of slave s published last: the value of its sync manager 3
abbrev pub input_bit : WorldState → ℕ → ℕ → Bool
input_bit w s o = bit (published (slave_of w s) 3) o

-- `World::progress`: the number and the part of the frame in a slot, and how many slaves it has passed
abbrev pub progress_at : WorldState → ℕ → Option Progress
progress_at w k = option_map flight_progress (flight_at w k)

-- the AL state of slave s is OP
abbrev pub IsInOp : WorldState → ℕ → Type 0
IsInOp w s = (slave_of w s).al.state ≡ Op

-- slave s with buffer b in its sync manager n, and all else as it is
abbrev pub with_buffer : SlaveState → ℕ → Buffer → SlaveState
with_buffer s n b = option_map_or (λ (m : SyncManager). record s { managers = set s.managers n (record m { buffer = b }) }) (slice_get s.managers n) s

-- slave s is now this one, and nothing else of the world changes: no other slave, no variable, no frame
abbrev pub with_slave : WorldState → ℕ → SlaveState → WorldState
with_slave w s x = record w { slaves = set w.slaves s x }

-- ---- 2. What the table says
-- Each slave is in one sync unit. A cycle sends one frame for each part of the plan; a part is of one unit, and each slave is
-- in one part of its unit.

-- the sync unit of slave s
abbrev pub unit_of : Contents → ℕ → ℕ
unit_of t s = option_map_or (λ (r : SlaveRow). r.unit) (slice_get t.slaves s) 0

-- the sync unit of part k
abbrev pub unit_of_part : Contents → ℕ → ℕ
unit_of_part t k = (part_at (plan_of t).parts k).unit

-- how many output bits, and input bits, slave s has, gaps with them
abbrev pub output_bits : Contents → ℕ → ℕ
output_bits t s = length (object_bits t s Out)

abbrev pub input_bits : Contents → ℕ → ℕ
input_bits t s = length (object_bits t s In)

-- ---- 3. Events of a run
-- A run goes from world `old` over a list of events to world `new`: one event of the list that was made, with the worlds before
-- and behind it. A run has one outcome (`OneOutcomeLaw`, RunLaws), so these are the worlds at this place of the list.

-- e was made, from world `at` to world `next`
pub record IsMade (old : WorldState) (events : List Event) (new : WorldState) (e : Event) : Type 0 where
  pub before : List Event
  pub behind : List Event
  pub split : events ≡ before ++ (e ∷ behind)
  pub at : WorldState
  pub next : WorldState
  pub first : ℕ
  pub rest : ℕ
  pub to_it : IsRun old before at first
  pub step : IsStep at e next true
  pub onward : IsRun next behind new rest

-- the cycle with this number was begun, which happens once (`BegunOnceLaw`, RunLaws)
pub record IsBegun (old : WorldState) (events : List Event) (new : WorldState) (number : ℕ) : Type 0 where
  pub event : IsMade old events new Begin
  pub number_is : event.at.master.next ≡ number

-- the frame of a part, of the cycle with this number, passed slave s, which happens once (`PassedOnceLaw`, RunLaws)
pub record HasPassed (old : WorldState) (events : List Event) (new : WorldState) (number part s : ℕ) : Type 0 where
  pub slot : ℕ
  pub event : IsMade old events new (Pass slot)
  pub frame : progress_at event.at slot ≡ Some (record { number = number; part = part; passed = s })

-- a frame of unit u, of the cycle with this number, was lost
pub record HasLost (t : Contents) (old : WorldState) (events : List Event) (new : WorldState) (number u : ℕ) : Type 0 where
  pub slot : ℕ
  pub event : IsMade old events new (Lose slot)
  pub frame : Progress
  pub there : progress_at event.at slot ≡ Some frame
  pub number_is : frame.number ≡ number
  pub unit_is : unit_of_part t frame.part ≡ u

-- a frame of unit u, of the cycle with this number, is in a slot
pub record IsUnderWay (t : Contents) (w : WorldState) (number u : ℕ) : Type 0 where
  pub slot : ℕ
  pub frame : Progress
  pub there : progress_at w slot ≡ Some frame
  pub number_is : frame.number ≡ number
  pub unit_is : unit_of_part t frame.part ≡ u

-- ---- 4. Trouble
-- A slave that isn't in OP under a Ready start-up had trouble: a fault of its application, or a reset. It counts since the last
-- start-up began, which brings every slave to OP or fails.

-- the event sends the first frame of a start-up: of the first one, or of one that begins again after a failure
abbrev pub begins_start : WorldState → Event → Bool
begins_start w StartNext = is_beginning (resumed w.start w.start.phase)
begins_start w e = false

-- a run in which no start-up begins
abbrev pub IsRunWithoutStart : WorldState → List Event → WorldState → Type 0
IsRunWithoutStart old [] new = new ≡ old
IsRunWithoutStart old (e ∷ es) new = (mid : WorldState) × (one : Bool) × IsStep old e mid one × ((one && begins_start old e) ≡ false) × IsRunWithoutStart mid es new

-- slave s had a fault or was reset, and no start-up began since
pub record HadTrouble (old : WorldState) (events : List Event) (new : WorldState) (s : ℕ) : Type 0 where
  pub event : Event
  pub what : (event ≡ Fault s) ⊎ (event ≡ Reset s)
  pub made : IsMade old events new event
  pub since : IsRunWithoutStart made.next made.behind new

-- ---- 5. Outputs
-- A frame of a cycle passes the slave that it meets next. If that is in OP and of the frame's part, it then shows exactly the
-- linked bits of the output variables as they were when the cycle began, whatever was set since, and 0 elsewhere.

-- Slave s shows each linked bit as the variables are in world `source`, and 0 in every other bit of its outputs.
pub record ShowsLinked (t : Contents) (source w : WorldState) (s : ℕ) : Type 0 where
  pub linked : (x b o : ℕ) → IsLinked t Out x b s o → output_bit w s o ≡ variable_bit source x b
  pub unlinked : (o : ℕ) → ((x b : ℕ) → IsLinked t Out x b s o → ⊥) → output_bit w s o ≡ false
  pub size : length (outputs_shown (slave_of w s)) ≡ bytes_of_bits (output_bits t s)

-- Slave `new` is slave `old`, with this value published in its sync manager n.
pub record OnlyPublishes (old : SlaveState) (n : ℕ) (value : List ℕ) (new : SlaveState) : Type 0 where
  pub buffer : Buffer
  pub there : buffer_of old n ≡ Some buffer
  pub is : new ≡ with_buffer old n (record buffer { published = value })

-- Frame f in slot k passed slave f.passed. If the slave is in OP and of the frame's part, it shows the linked bits of the world
-- in which the cycle began, and nothing else of it changes; otherwise it stays as it is. No other slave
-- changes, no variable, no other slot, nothing else.
pub record PassShows (t : Contents) (old : WorldState) (events : List Event) (w : WorldState) (k : ℕ) (f : Progress) (v : WorldState) : Type 0 where
  pub begun : IsBegun old events w f.number
  pub shows : IsInOp w f.passed → part_of (plan_of t) f.passed ≡ f.part → ShowsLinked t begun.event.at v f.passed
  pub slave : IsInOp w f.passed → part_of (plan_of t) f.passed ≡ f.part → OnlyPublishes (slave_of w f.passed) 2 (outputs_shown (slave_of v f.passed)) (slave_of v f.passed)
  pub untouched : (IsInOp w f.passed → part_of (plan_of t) f.passed ≢ f.part) → slave_of v f.passed ≡ slave_of w f.passed
  pub others : (s : ℕ) → s ≢ f.passed → slave_of v s ≡ slave_of w s
  pub goes_on : progress_at v k ≡ Some (record { number = f.number; part = f.part; passed = f.passed + 1 })
  pub slots : (j : ℕ) → j ≢ k → flight_at v j ≡ flight_at w j
  pub rest : v ≡ record w { slaves = v.slaves; slots = v.slots }

-- ---- 6. Inputs
-- A close takes each sync unit completely or not at all, and the report says which. It is not taken exactly if there is a
-- cause, and there are three: a frame of the unit was lost in this cycle, or is still under way, or passed a slave that gave
-- less than its share after a trouble.

-- Bit b of variable x is, in world v, bit o of what slave s published when the frame of its part passed it, in the cycle that
-- `begun` began.
pub record IsRead (t : Contents) {old : WorldState} {events : List Event} {w : WorldState} {number : ℕ} (begun : IsBegun old events w number) (v : WorldState) (x b s o : ℕ) : Type 0 where
  pub pass : HasPassed begun.event.next begun.event.behind w number (part_of (plan_of t) s) s
  pub value : variable_bit v x b ≡ input_bit pass.event.at s o

-- A slave gives a frame less than its share: in SAFEOP after a fault it doesn't take outputs; in INIT after a reset it neither
-- takes outputs nor gives inputs. This counts only if it has such bits.
abbrev pub GivesLess : Contents → WorldState → ℕ → Type 0
GivesLess t w s =
    (((slave_of w s).al.state ≡ SafeOp) × (0 < output_bits t s))
    ⊎ (((slave_of w s).al.state ≡ Init) × (0 < output_bits t s + input_bits t s))

-- A slave of unit u gave less than its share to the frame of its part in this cycle: it had trouble before that frame passed it.
pub record FellShort (t : Contents) {old : WorldState} {events : List Event} {w : WorldState} {number : ℕ} (begun : IsBegun old events w number) (u : ℕ) : Type 0 where
  pub slave : ℕ
  pub unit_is : unit_of t slave ≡ u
  pub pass : HasPassed begun.event.next begun.event.behind w number (part_of (plan_of t) slave) slave
  pub less : GivesLess t pass.event.at slave
  pub trouble : HadTrouble old (begun.event.before ++ (Begin ∷ pass.event.before)) pass.event.at slave

-- why unit u isn't taken, by what happened since the cycle began
pub data Cause (t : Contents) {old : WorldState} {events : List Event} {w : WorldState} {number : ℕ} (begun : IsBegun old events w number) (u : ℕ) : Type 0 where
  ByLoss : HasLost t begun.event.next begun.event.behind w number u → Cause t begun u
  ByEarlyClose : IsUnderWay t w number u → Cause t begun u
  ByFallingShort : FellShort t begun u → Cause t begun u

-- the report lists each sync unit of the table once, and no other; it lists unit 0 if the table has no slaves
pub record ListsUnits (t : Contents) (units : List ℕ) : Type 0 where
  pub each : (s : ℕ) → s < length t.slaves → Contains units (unit_of t s)
  pub once : (i j : ℕ) → i < length units → j < length units → get_or units i 0 ≡ get_or units j 0 → i ≡ j
  pub only : 0 < length t.slaves → (i : ℕ) → i < length units → (s : ℕ) × (s < length t.slaves) × (unit_of t s ≡ get_or units i 0)
  pub zero_alone : length t.slaves ≡ 0 → units ≡ 0 ∷ []

-- the report says of unit u, wherever it lists it, whether it was taken
abbrev pub Says : ReportState → ℕ → Bool → Type 0
Says r u taken = (i : ℕ) → i < length r.units → get_or r.units i 0 ≡ u → slice_get r.taken i ≡ Some taken

-- how many slaves the broadcast in the frame of part k of the open cycle counted, if that frame is back
abbrev pub broadcast_at : WorldState → ℕ → Option ℕ
broadcast_at w k = option_and_then (λ (c : OpenCycle). option_map (λ (p : ReturnedPart). p.broadcast) (get_or c.kept k None)) w.master.cycle

-- Unit u is taken: every linked input bit of its slaves was read in this cycle, each of its parts came back with the working
-- counters that the plan predicts, its broadcast counted every slave, and there is no cause against it.
pub record IsTaken (t : Contents) {old : WorldState} {events : List Event} {w : WorldState} {number : ℕ} (begun : IsBegun old events w number) (v : WorldState) (r : ReportState) (u : ℕ) : Type 0 where
  pub said : Says r u true
  pub inputs : (x b s o : ℕ) → IsLinked t In x b s o → unit_of t s ≡ u → IsRead t begun v x b s o
  pub counters : (k : ℕ) → k < length (plan_of t).parts → unit_of_part t k ≡ u → get_or r.counters k None ≡ Some (predicted (plan_of t) k)
  pub broadcasts : (k : ℕ) → k < length (plan_of t).parts → unit_of_part t k ≡ u → broadcast_at w k ≡ Some (length t.slaves)
  pub no_cause : Cause t begun u → ⊥

-- Unit u is not taken: no linked input bit of its slaves changes, and there is a cause.
pub record IsMissed (t : Contents) {old : WorldState} {events : List Event} {w : WorldState} {number : ℕ} (begun : IsBegun old events w number) (v : WorldState) (r : ReportState) (u : ℕ) : Type 0 where
  pub said : Says r u false
  pub unchanged : (x b s o : ℕ) → IsLinked t In x b s o → unit_of t s ≡ u → variable_bit v x b ≡ variable_bit w x b
  pub cause : Cause t begun u

-- The open cycle is closed. Each unit is taken or missed. A bit of a variable that no input is linked to stays, and so does
-- everything but the inputs, the cycle and the report.
pub record CloseShows (t : Contents) (old : WorldState) (events : List Event) (w v : WorldState) : Type 0 where
  -- the number of the open cycle
  pub number : ℕ
  pub begun : IsBegun old events w number
  pub is_open : option_map (λ (c : OpenCycle). c.number) w.master.cycle ≡ Some number
  pub report : ReportState
  pub reported : v.report ≡ Some report
  pub listed : ListsUnits t report.units
  pub each : (u : ℕ) → IsTaken t begun v report u ⊎ IsMissed t begun v report u
  pub unlinked : (x b : ℕ) → ((s o : ℕ) → IsLinked t In x b s o → ⊥) → variable_bit v x b ≡ variable_bit w x b
  pub rest : v ≡ record w { master = record w.master { inputs = v.master.inputs; cycle = None }; report = v.report }

-- ---- 7. The other events
-- What they leave of variables, slaves and frames. A Ready start-up sends no more frames, and a firmware step of a
-- slave changes nothing. Begin, Lose, Return and Stop touch no slave and no variable; Stop ends the Ready start-up.

-- Set gives variable x this value, and touches no other variable, no slave and no frame.
pub record SetShows (w : WorldState) (x value : ℕ) (v : WorldState) : Type 0 where
  pub value_is : variable v x ≡ value
  pub others : (y : ℕ) → y ≢ x → variable v y ≡ variable w y
  pub rest : v ≡ record w { master = record w.master { outputs = v.master.outputs } }

-- Only the buffer of sync manager n of slave s changes, and the byte that was read last.
pub record TouchShows (w : WorldState) (s n : ℕ) (got : Option ℕ) (v : WorldState) : Type 0 where
  pub buffer : Buffer
  pub rest : v ≡ record (with_slave w s (with_buffer (slave_of w s) n buffer)) { got = got }

-- AppPut touches only the inputs of slave s. The last byte publishes them, with that byte; no other byte does.
pub record PutShows (w : WorldState) (s i byte : ℕ) (v : WorldState) : Type 0 where
  pub touches : TouchShows w s 3 w.got v
  pub last : i + 1 ≡ length (published (slave_of w s) 3) → slice_get (published (slave_of v s) 3) i ≡ Some byte
  pub kept : i + 1 ≢ length (published (slave_of w s) 3) → published (slave_of v s) 3 ≡ published (slave_of w s) 3

-- Slave s falls into this state, and shows no output; nothing else changes: no other slave, no variable, no frame.
pub record FallShows (w : WorldState) (s : ℕ) (state : State) (v : WorldState) : Type 0 where
  pub state_is : (slave_of v s).al.state ≡ state
  pub outputs : (o : ℕ) → output_bit v s o ≡ false
  pub rest : v ≡ with_slave w s (slave_of v s)

-- ---- 8. The law
-- A new world of a table that `compile` accepts came by ANY events to a world whose start-up is Ready, and then one more event
-- is made. `World::step` ensures the law of its event.

-- what a made event shows
abbrev pub HeadlineShows : Contents → WorldState → List Event → WorldState → Event → WorldState → Type 0
HeadlineShows t old events w StartNext v = ⊥
HeadlineShows t old events w (Set x value) v = SetShows w x value v
HeadlineShows t old events w Begin v = v ≡ record w { master = record w.master { next = w.master.next + 1; cycle = v.master.cycle }; slots = v.slots }
HeadlineShows t old events w (Pass k) v = (f : Progress) → progress_at w k ≡ Some f → PassShows t old events w k f v
HeadlineShows t old events w (Lose k) v = v ≡ record w { slots = set w.slots k None }
HeadlineShows t old events w (Return k) v = v ≡ record w { master = record w.master { cycle = v.master.cycle }; slots = set w.slots k None }
HeadlineShows t old events w Close v = CloseShows t old events w v
HeadlineShows t old events w (Serve s) v = v ≡ w
HeadlineShows t old events w (AppPut s i byte) v = PutShows w s i byte v
HeadlineShows t old events w (AppGet s i) v = TouchShows w s 2 v.got v × (published (slave_of v s) 2 ≡ published (slave_of w s) 2)
HeadlineShows t old events w (Fault s) v = FallShows w s SafeOp v × ((o : ℕ) → input_bit v s o ≡ input_bit w s o)
HeadlineShows t old events w (Reset s) v = FallShows w s Init v × ((o : ℕ) → input_bit v s o ≡ false)
HeadlineShows t old events w Stop v = (v ≡ record w { start = v.start }) × (is_up v.start ≡ false)

abbrev pub HeadlineLaw : Type 0
HeadlineLaw =
    (t : Contents) (identities : List Identity) (old : WorldState) (events : List Event) (w : WorldState) (made : ℕ)
    → IsNew t identities old → IsRun old events w made → is_up w.start ≡ true
    → (e : Event) (v : WorldState) → IsStep w e v true → HeadlineShows t old events w e v

-- ---- 9. The law over a list of events
-- `World::run` ensures this of each event of its list, wherever the list is cut: the new world `first` came to world `old`
-- by the events `past`, and the call came from there to world `new`.

-- one event e of the list, made or not, with the worlds before and behind it
pub record IsPromised (t : Contents) (first : WorldState) (past : List Event) (old : WorldState) (before : List Event) (e : Event) (behind : List Event) (new : WorldState) : Type 0 where
  pub at : WorldState
  pub next : WorldState
  pub made : Bool
  pub count : ℕ
  pub rest : ℕ
  pub to_it : IsRun old before at count
  pub step : IsStep at e next made
  pub onward : IsRun next behind new rest
  pub shows : made ≡ true → is_up at.start ≡ true → HeadlineShows t first (past ++ before) at e next

abbrev pub EachIsPromised : Contents → WorldState → List Event → WorldState → List Event → WorldState → Type 0
EachIsPromised t first past old events new = (before : List Event) (e : Event) (behind : List Event) → events ≡ before ++ (e ∷ behind) → IsPromised t first past old before e behind new
