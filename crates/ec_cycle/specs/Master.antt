-- What a master is, and what its calls do.
use Rattle.std.specs.Prelude.{ℕ, ◌+◌, ◌-◌, ◌^◌, ◌<◌, ◌≡◌, ◌&&◌, List, [], ◌∷◌, length, map, get_or, set, Bool, true, false, if◌then◌else◌, nat_lt, Option, Some, None, is_some, Result, Ok, Err, slice_get, max}
use Rattle.ec_link.specs.LinkRuns.{is_out}
use Rattle.ec_bits.specs.Bits.{with_number, bits_number, zeros, bytes_of_bits}
use Rattle.ec_frame.specs.Datagram.{Datagram}
use Rattle.ec_frame.specs.Frame.{Payload, IsFrame}
use Rattle.ec_frame.specs.Building.{bare_payload}
use Rattle.ec_link.specs.declared.image.Variable.{Variable}
use Rattle.ec_link.specs.Plan.{PlanState, part_at}
pub use Rattle.ec_frame.specs.Names.{Shape, shape, name_of}
use Rattle.ec_cycle.specs.declared.error.CycleError.{CycleError}
use Rattle.ec_cycle.specs.declared.error.CycleError.TheVariants.{NotReady, Open, NumbersSpent}
use Rattle.ec_cycle.specs.Frames.{sent_datagrams}
use Rattle.ec_cycle.specs.Closing.{ReturnedPart, ReportState, returned_part_of, inputs_closed, nones, report_of}

-- a cycle under way: its number, the frame of each part as it was sent, and what came back
pub record OpenCycle : Type 0 where
  pub number : ℕ
  pub frames : List (List ℕ)
  pub kept : List (Option ReturnedPart)

-- the value of a `Master`
pub record MasterState : Type 0 where
  pub plan : PlanState
  pub is_ready : Bool
  -- the number of the next cycle
  pub next : ℕ
  -- the process image
  pub outputs : List ℕ
  pub inputs : List ℕ
  pub cycle : Option OpenCycle

-- A new master is not ready and has no cycle; all bits of all variables are 0.
abbrev pub new_master : PlanState → MasterState
new_master plan = record { plan = plan; is_ready = false; next = 0; outputs = zeros (bytes_of_bits plan.out_bits); inputs = zeros (bytes_of_bits plan.in_bits); cycle = None }

-- A start-up of the plan ended Ready: its next number counts, unless the master is past it.
abbrev pub readied : MasterState → ℕ → MasterState
readied m next = record m { is_ready = true; next = max m.next next }

-- ---- variables

-- an output variable that holds the value
abbrev pub holds_value : ℕ → Option Variable → Bool
holds_value value None = false
holds_value value (Some v) = is_out v.direction && nat_lt value (2 ^ v.bits)

abbrev pub value_put : List ℕ → ℕ → Option Variable → List ℕ
value_put image value None = image
value_put image value (Some v) = with_number image v.from v.bits value

abbrev pub variable_set : MasterState → ℕ → ℕ → MasterState
variable_set m variable value = record m { outputs = value_put m.outputs value (slice_get m.plan.variables variable) }

abbrev pub value_of : MasterState → Variable → ℕ
value_of m v = bits_number (if is_out v.direction then m.outputs else m.inputs) v.from v.bits

-- the number of a variable's bits; 0 if there is no such variable
abbrev pub value_at : MasterState → Option Variable → ℕ
value_at m None = 0
value_at m (Some v) = value_of m v

-- ---- the frames of a cycle

-- numbers of cycles are below this
abbrev pub cycle_limit : ℕ
cycle_limit = 2 ^ 64 - 1

-- why no cycle can begin: the first cause that holds
abbrev pub begin_refusal : MasterState → Option CycleError
begin_refusal m =
    if m.is_ready then (if is_some m.cycle then Some Open else (if nat_lt m.next cycle_limit then None else Some NumbersSpent))
    else Some NotReady

abbrev pub refused_by : Option CycleError → Result Unit CycleError
refused_by None = Ok tt
refused_by (Some e) = Err e

-- Each part has a frame, of the image as it is; nothing is kept yet, and the number is spent.
pub record Begun (old new : MasterState) (c : OpenCycle) : Type 0 where
  pub is : new ≡ record old { next = old.next + 1; cycle = Some c }
  pub number : c.number ≡ old.next
  pub kept : c.kept ≡ map (λ k. None) old.plan.parts
  pub count : length c.frames ≡ length old.plan.parts
  pub frames : (k : ℕ) → k < length old.plan.parts → IsFrame (get_or c.frames k []) (bare_payload (sent_datagrams old.plan old.next k old.outputs))

-- the frame of part k of the open cycle
abbrev pub frame_of : Option OpenCycle → ℕ → List ℕ
frame_of None k = []
frame_of (Some c) k = get_or c.frames k []

-- ---- what comes back

-- the addresses of the process datagrams, which stand behind the first two
abbrev pub process_addresses : List Datagram → List ℕ
process_addresses [] = []
process_addresses (d ∷ []) = []
process_addresses (d ∷ b ∷ ds) = map (λ x. x.address) ds

-- The payload's datagrams are those of the frame of part k of the cycle, whatever slaves did with it.
pub record Answers (p : PlanState) (number k : ℕ) (ds : List Datagram) : Type 0 where
  pub shapes : map shape ds ≡ map shape (sent_datagrams p number k [])
  pub named : name_of ds ≡ name_of (sent_datagrams p number k [])
  pub addresses : process_addresses ds ≡ process_addresses (sent_datagrams p number k [])

-- It answers a part that is not kept yet.
pub record IsAnswer (m : MasterState) (c : OpenCycle) (payload : List ℕ) (k : ℕ) (p : Payload) : Type 0 where
  pub is_open : m.cycle ≡ Some c
  pub there : k < length m.plan.parts
  pub not_kept : get_or c.kept k None ≡ None
  pub spelled : IsFrame payload p
  pub answers : Answers m.plan c.number k p.datagrams

-- it answers some part
pub record AnswersSome (m : MasterState) (payload : List ℕ) : Type 0 where
  pub cycle : OpenCycle
  pub part : ℕ
  pub frame : Payload
  pub answer : IsAnswer m cycle payload part frame

abbrev pub with_returned : MasterState → OpenCycle → ℕ → ReturnedPart → MasterState
with_returned m c k q = record m { cycle = Some (record c { kept = set c.kept k (Some q) }) }

-- An answer is accepted; any other payload changes nothing.
pub record IsTaken (old : MasterState) (payload : List ℕ) (is_accepted : Bool) (new : MasterState) : Type 0 where
  pub kept : (c : OpenCycle) (k : ℕ) (p : Payload) → IsAnswer old c payload k p
      → (is_accepted ≡ true) × (new ≡ with_returned old c k (returned_part_of (part_at old.plan.parts k) p.datagrams))
  pub foreign : ((c : OpenCycle) (k : ℕ) (p : Payload) → IsAnswer old c payload k p → ⊥) → (is_accepted ≡ false) × (new ≡ old)
  -- and only an answer is accepted
  pub only : is_accepted ≡ true → AnswersSome old payload

-- how many parts of the open cycle are not kept yet
abbrev pub missing_of : Option OpenCycle → ℕ
missing_of None = 0
missing_of (Some c) = nones c.kept

-- ---- closing

-- the inputs of the units that are taken, and no cycle
abbrev pub closed : MasterState → OpenCycle → MasterState
closed m c = record m { inputs = inputs_closed m.plan c.kept m.inputs; cycle = None }

-- the master and the report after a close
pub record IsClosed (old new : MasterState) (r : ReportState) : Type 0 where
  pub cycle : OpenCycle
  pub was_open : old.cycle ≡ Some cycle
  pub master : new ≡ closed old cycle
  pub report : r ≡ report_of old.plan cycle.kept

-- the cycle dropped, and nothing taken of it
abbrev pub abandoned : MasterState → MasterState
abandoned m = record m { cycle = None }
