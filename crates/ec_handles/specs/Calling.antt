-- What a call does to the value behind its handle, and what it returns.
use Rattle.std.specs.Prelude.{◌≡◌, ◌≢◌, ◌≤◌, ◌<◌, ◌↔◌, ℕ, Bool, true, false, List, length, take, set, slice_get, nat_le, nat_lt, is_some, option_and_then, option_map, unwrap_or, Option, None, Some, Result, Ok, Err, IsTrue, IsUtf8}
use Rattle.std.specs.List.{list_all}
use Rattle.ec_cycle.specs.Closing.{ReportState}
use Rattle.ec_cycle.specs.Master.{Begun, IsClosed, OpenCycle, begin_refusal, frame_of, holds_value, missing_of, value_at, variable_set}
use Rattle.ec_cycle.specs.Refusals.{refusal_number}
use Rattle.ec_cycle.specs.declared.error.CycleError.{CycleError}
use Rattle.ec_ring.specs.Rings.{HasPassedRing, IsNoFrame}
use Rattle.ec_slave.specs.Interface.{Got, Op}
use Rattle.ec_slave.specs.Application.{get_size, input_put, inputs_put, output_got, output_taken, outputs_shown, outputs_taken, put_size}
use Rattle.ec_slave.specs.Faulting.{faulted}
use Rattle.ec_slave.specs.Serving.{served}
use Rattle.ec_slave.specs.State.{SlaveState}
use Rattle.ec_start.specs.Errors.{error_number}
use Rattle.ec_start.specs.Running.{asked, given_up, next_frame, outcome_of}
use Rattle.ec_start.specs.declared.error.StartError.{StartError}
use Rattle.ec_start.specs.declared.phase.NextFrame.TheVariants.{Send}
use Rattle.ec_frame.specs.Building.{bare_payload}
use Rattle.ec_frame.specs.Frame.{IsFrame}
use Rattle.ec_asking.specs.Questions.{question_frame}
use Rattle.ec_asking.specs.declared.question.Question.TheVariants.{Status}
use Rattle.ec_session.specs.Sessions.{IsGiven, IsNextFrame, resumed, unit_taken, variable_named}
use Rattle.ec_handles.specs.Polls.{Notes, feeds_part}
use Rattle.ec_handles.specs.Statuses.{TakesStatus, next_count, status_asked}
use Rattle.ec_handles.specs.declared.done.Closed.{Closed}
use Rattle.ec_handles.specs.declared.done.Done.{Done}
use Rattle.ec_handles.specs.declared.done.VariableValue.{VariableValue}
use Rattle.ec_handles.specs.declared.held.HeldMaster.{HeldMaster}
use Rattle.ec_handles.specs.declared.polling.Polling.{Polling}
use Rattle.ec_handles.specs.declared.statuses.Statuses.{Statuses}

-- A step leads from the value behind the handle that is passed to the value behind the one that is handed back; both have one.
pub record Leads {S : Type 0} (old new : Option S) (step : S → S → Type 0) : Type 0 where
  pub before : S
  pub after : S
  pub was : old ≡ Some before
  pub is : new ≡ Some after
  pub leads : step before after

-- ---- results

abbrev pub refused : ℕ → Done
refused number = record { number = number; is_done = false; count = 0 }

abbrev pub counted : Bool → ℕ → Done
counted is_done count = record { number = 0; is_done = is_done; count = count }

-- bytes are written into a room if they fit; the count is how many they are
pub record AreCopied (bytes room : List ℕ) (done : Done) (shown : List ℕ) : Type 0 where
  pub fits : length bytes ≤ length room → (done ≡ counted true (length bytes)) × (take (length bytes) shown ≡ bytes)
  pub short : length room < length bytes → (done ≡ counted false (length bytes)) × (shown ≡ room)

-- ---- the start-up

-- the frame is noted if there is one
abbrev pub IsNoted : Bool → Polling → List ℕ → Polling → Type 0
IsNoted true old frame new = Notes (feeds_part frame) old frame new
IsNoted false old frame new = new ≡ old

pub record AsksNext (old : HeldMaster) (room : List ℕ) (done : Done) (shown : List ℕ) (new : HeldMaster) : Type 0 where
  pub short : length room < 1472 → (done.count ≡ 0) × (new.session ≡ old.session)
  pub state : 1472 ≤ length room → new.session ≡ record old.session { startup = asked (resumed old.session.startup) }
  pub frame : 1472 ≤ length room → next_frame (resumed old.session.startup) ≡ Send → IsNextFrame (resumed old.session.startup) (take done.count shown)
  pub none : next_frame (resumed old.session.startup) ≢ Send → done.count ≡ 0
  pub noted : IsNoted (nat_lt 0 done.count) old.polling (take done.count shown) new.polling
  pub statuses : new.statuses ≡ old.statuses

-- the session takes the payload, or else it may say the AL state of a slave
abbrev pub TakesBeside : Bool → Statuses → List ℕ → Bool → Statuses → Type 0
TakesBeside true old payload is_done new = (is_done ≡ true) × (new ≡ old)
TakesBeside false old payload is_done new = TakesStatus old payload is_done new

pub record Takes (old : HeldMaster) (payload : List ℕ) (done : Done) (new : HeldMaster) : Type 0 where
  pub is_kept : Bool
  pub session : IsGiven old.session payload is_kept new.session
  pub statuses : TakesBeside is_kept old.statuses payload done.is_done new.statuses
  pub count : done.count ≡ missing_of new.session.master.cycle
  pub polling : new.polling ≡ old.polling

-- A question for the AL state of a slave is written into the room.
pub record AsksState (old : HeldMaster) (slave : ℕ) (room : List ℕ) (done : Done) (shown : List ℕ) (new : HeldMaster) : Type 0 where
  pub there : slave < length old.session.master.plan.slaves → 1472 ≤ length room → IsFrame (take done.count shown) (bare_payload (question_frame (Status slave) (next_count old.statuses)))
  pub asked : slave < length old.session.master.plan.slaves → 1472 ≤ length room → new ≡ record old { statuses = status_asked old.statuses slave }
  pub none : (slave < length old.session.master.plan.slaves → 1472 ≤ length room → ⊥) → (done ≡ counted false 0) × (shown ≡ room) × (new ≡ old)

-- done if Ready, not done if it runs, or a failure's number
abbrev pub phase_result : Option (Result Unit StartError) → Done
phase_result None = counted false 0
phase_result (Some (Ok done)) = counted true 0
phase_result (Some (Err error)) = refused (error_number error)

abbrev pub ReturnsPhase : HeldMaster → Done → HeldMaster → Type 0
ReturnsPhase old done new = (new ≡ old) × (done ≡ phase_result (outcome_of old.session.startup.phase))

abbrev pub GivesUp : HeldMaster → HeldMaster → Type 0
GivesUp old new = new ≡ record old { session = record old.session { startup = given_up old.session.startup } }

-- ---- cycles

abbrev pub begin_result : Option CycleError → ℕ → Done
begin_result None parts = counted true parts
begin_result (Some error) parts = refused (refusal_number error)

pub record Begins (old : HeldMaster) (done : Done) (new : HeldMaster) : Type 0 where
  pub told : done ≡ begin_result (begin_refusal old.session.master) (length new.session.master.plan.parts)
  pub begun : begin_refusal old.session.master ≡ None → (c : OpenCycle) × Begun old.session.master new.session.master c
  pub kept : done.is_done ≡ false → new ≡ old
  pub rest : new ≡ record old { session = record old.session { master = new.session.master } }

pub record CopiesPart (old : HeldMaster) (part : ℕ) (room : List ℕ) (done : Done) (shown : List ℕ) (new : HeldMaster) : Type 0 where
  pub there : is_some old.session.master.cycle ≡ true → part < length old.session.master.plan.parts → AreCopied (frame_of old.session.master.cycle part) room done shown
  pub none : (is_some old.session.master.cycle ≡ true → part < length old.session.master.plan.parts → ⊥) → (done ≡ counted false 0) × (shown ≡ room)
  pub same : new ≡ old

abbrev pub report_result : ReportState → Closed
report_result r = record { number = 0; is_taken = list_all (λ (t : Bool). t) r.taken; al = r.al_word; missing = r.missing }

abbrev pub not_closed : ℕ → Closed
not_closed number = record { number = number; is_taken = false; al = 0; missing = 0 }

pub record Closes (old : HeldMaster) (report : Closed) (new : HeldMaster) : Type 0 where
  pub closed : is_some old.session.master.cycle ≡ true → (r : ReportState) × (new.session.report ≡ Some r) × IsClosed old.session.master new.session.master r × (report ≡ report_result r)
  pub not_open : old.session.master.cycle ≡ None → (report ≡ not_closed 35) × (new ≡ old)
  pub rest : new ≡ record old { session = record old.session { master = new.session.master; report = new.session.report } }

abbrev pub unit_result : Option Bool → Done
unit_result None = counted false 0
unit_result (Some is_taken) = counted is_taken 1

abbrev pub ReturnsUnit : HeldMaster → ℕ → Done → HeldMaster → Type 0
ReturnsUnit old unit done new = (new ≡ old) × (done ≡ unit_result (option_and_then (unit_taken unit) old.session.report))

-- ---- variables

pub record Sets (old : HeldMaster) (variable value : ℕ) (done : Done) (new : HeldMaster) : Type 0 where
  pub told : done ≡ counted (holds_value value (slice_get old.session.master.plan.variables variable)) 0
  pub is : done.is_done ≡ true → new ≡ record old { session = record old.session { master = variable_set old.session.master variable value } }
  pub kept : done.is_done ≡ false → new ≡ old

pub record Gets (old : HeldMaster) (variable : ℕ) (read : VariableValue) (new : HeldMaster) : Type 0 where
  pub same : new ≡ old
  pub there : variable < length old.session.master.plan.variables
      → read ≡ record { is_there = true; value = value_at old.session.master (slice_get old.session.master.plan.variables variable) }
  pub none : length old.session.master.plan.variables ≤ variable → read ≡ record { is_there = false; value = 0 }

pub record SetsOutputs (old : HeldMaster) (outputs : List ℕ) (done : Done) (new : HeldMaster) : Type 0 where
  pub size : done.count ≡ length old.session.master.outputs
  pub is : length outputs ≡ done.count → new ≡ record old { session = record old.session { master = record old.session.master { outputs = outputs } } }
  pub kept : length outputs ≢ done.count → new ≡ old

abbrev pub CopiesInputs : HeldMaster → List ℕ → Done → List ℕ → HeldMaster → Type 0
CopiesInputs old room done shown new = (new ≡ old) × AreCopied old.session.master.inputs room done shown

abbrev pub index_result : Option ℕ → Done
index_result None = counted false 0
index_result (Some index) = counted true index

-- a name that is not UTF-8 is no variable's
pub record Finds (old : HeldMaster) (name : List ℕ) (done : Done) (new : HeldMaster) : Type 0 where
  pub same : new ≡ old
  pub found : IsUtf8 name → done ≡ index_result (variable_named old.session.table name)
  pub none : (IsUtf8 name → ⊥) → done ≡ counted false 0

-- ---- a segment

-- a frame passes all slaves; bytes that are no frame change nothing
pub record Passes (old : List SlaveState) (frame : List ℕ) (is_frame : Bool) (passed : List ℕ) (new : List SlaveState) : Type 0 where
  pub through : is_frame ≡ true → HasPassedRing old frame new passed
  pub refused : is_frame ≡ false → IsNoFrame frame × (new ≡ old) × (passed ≡ frame)

-- the slave at a place, if it is there, becomes another, and all others stay
abbrev pub AtSlave : List SlaveState → ℕ → (SlaveState → SlaveState) → List SlaveState → Type 0
AtSlave old index f new = ((s : SlaveState) → slice_get old index ≡ Some s → new ≡ set old index (f s)) × (slice_get old index ≡ None → new ≡ old)

-- the slave at a place changes by a function; done if it is there
pub record Does (old : List SlaveState) (index : ℕ) (f : SlaveState → SlaveState) (done : Bool) (new : List SlaveState) : Type 0 where
  pub is_done : done ≡ nat_lt index (length old)
  pub slaves : AtSlave old index f new

-- a byte of the outputs, if the slave is there and its application may read it
abbrev pub output_read : List SlaveState → (index byte : ℕ) → Option ℕ
output_read slaves index byte = option_and_then (λ (s : SlaveState). option_map (λ (got : Got). got.byte) (output_got s byte)) (slice_get slaves index)

-- the application of the slave at a place reads a byte of its outputs; if it may not read the byte, the room stays as it was
pub record Reads (old : List SlaveState) (index byte room : ℕ) (done : Bool) (read : ℕ) (new : List SlaveState) : Type 0 where
  pub is_done : done ≡ is_some (output_read old index byte)
  pub byte_is : read ≡ unwrap_or (output_read old index byte) room
  pub slaves : AtSlave old index (λ (s : SlaveState). output_taken s (output_got s byte)) new

-- the application of the slave at a place writes a byte of its inputs
pub record Writes (old : List SlaveState) (index byte value : ℕ) (done : Bool) (new : List SlaveState) : Type 0 where
  pub is_done : done ≡ is_some (option_and_then (λ (s : SlaveState). input_put s byte value) (slice_get old index))
  pub slaves : AtSlave old index (λ (s : SlaveState). unwrap_or (input_put s byte value) s) new

-- the outputs that a slave's application may read now, as they were published last; no bytes if each is denied
abbrev pub outputs_whole : SlaveState → List ℕ
outputs_whole s = take (get_size s) (outputs_shown s)

-- the slave whose application has read them, byte after byte, if it has
abbrev pub outputs_behind : Bool → SlaveState → SlaveState
outputs_behind true s = outputs_taken s (get_size s)
outputs_behind false s = s

-- the application of the slave at a place reads its outputs whole, if they fit into the room
pub record ReadsOutputs (old : List SlaveState) (index : ℕ) (room : List ℕ) (done : Done) (shown : List ℕ) (new : List SlaveState) : Type 0 where
  pub there : (s : SlaveState) → slice_get old index ≡ Some s → AreCopied (outputs_whole s) room done shown
  pub none : slice_get old index ≡ None → (done ≡ counted false 0) × (shown ≡ room)
  pub slaves : AtSlave old index (outputs_behind done.is_done) new

-- how many bytes of inputs a slave's application may write now; done if so many are given
abbrev pub inputs_result : (given : ℕ) → Option SlaveState → Done
inputs_result given None = counted false 0
inputs_result given (Some s) = counted (nat_le (put_size s) given) (put_size s)

-- the slave whose application has written so many of these inputs, byte after byte, if it has
abbrev pub inputs_behind : Bool → List ℕ → SlaveState → SlaveState
inputs_behind true inputs s = inputs_put s (take (put_size s) inputs) (put_size s)
inputs_behind false inputs s = s

-- the application of the slave at a place writes its inputs whole, if so many are given
pub record WritesInputs (old : List SlaveState) (index : ℕ) (inputs : List ℕ) (done : Done) (new : List SlaveState) : Type 0 where
  pub told : done ≡ inputs_result (length inputs) (slice_get old index)
  pub slaves : AtSlave old index (inputs_behind done.is_done inputs) new

-- the slave whose application has written these inputs, if they are enough
abbrev pub inputs_given : List ℕ → SlaveState → SlaveState
inputs_given inputs s = inputs_behind (nat_le (put_size s) (length inputs)) inputs s

-- The slave at a place makes a firmware step. Then its application writes its inputs whole, if so many are given, and reads its
-- outputs whole, if they fit into the room.
pub record Exchanges (old : List SlaveState) (index : ℕ) (inputs room : List ℕ) (done : Done) (shown : List ℕ) (new : List SlaveState) : Type 0 where
  pub there : (s : SlaveState) → slice_get old index ≡ Some s → AreCopied (outputs_whole (inputs_given inputs (served s))) room done shown
  pub none : slice_get old index ≡ None → (done ≡ counted false 0) × (shown ≡ room)
  pub slaves : AtSlave old index (λ (s : SlaveState). outputs_behind done.is_done (inputs_given inputs (served s))) new

-- the application of the slave at a place has a fault; done if the slave is in OP
pub record HasFault (old : List SlaveState) (index : ℕ) (done : Bool) (new : List SlaveState) : Type 0 where
  pub there : (s : SlaveState) → slice_get old index ≡ Some s → (IsTrue done ↔ (s.al.state ≡ Op))
  pub none : slice_get old index ≡ None → done ≡ false
  pub slaves : AtSlave old index faulted new
