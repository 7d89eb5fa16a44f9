-- A master that owns its machine. Each of its calls by hand is a call of its start-up or of its master.
use Rattle.std.specs.Prelude.{◌≡◌, ℕ, zero, suc, ◌==◌, Bool, true, false, if◌then◌else◌, List, Option, None, length, option_and_then, position, slice_get}
use Rattle.std.specs.Str.{bytes_eq}
use Rattle.ec_table.specs.Contents.{Contents}
use Rattle.ec_table.specs.declared.rows.VariableRow.{VariableRow}
use Rattle.ec_link.specs.Machine.{StatesMachine}
use Rattle.ec_link.specs.Plan.{plan_of}
use Rattle.ec_start.specs.declared.phase.Phase.{Phase}
use Rattle.ec_start.specs.declared.phase.Phase.TheVariants.{Idle, Sent, Ready, Failed}
use Rattle.ec_start.specs.Running.{StartState, IsStartTaken, begun, has_failed, restarted}
use Rattle.ec_start.specs.Feeding.{feeds_of}
use Rattle.ec_cycle.specs.Closing.{ReportState}
use Rattle.ec_cycle.specs.Master.{MasterState, IsTaken, holds_value, new_master, readied, variable_set}
pub use Rattle.ec_wire.specs.BringingUp.{IsNextFrame}

-- the value of a `Session`
pub record SessionState : Type 0 where
  pub table : Contents
  -- the last start-up
  pub startup : StartState
  pub master : MasterState
  -- the report of the last cycle that had one
  pub report : Option ReportState
  -- how many questions were asked, modulo 65536
  pub asked : ℕ

-- the session of a table: start-up and master are new
abbrev pub new_session : Contents → SessionState
new_session t = record { table = t; startup = begun (plan_of t).slaves (feeds_of (plan_of t)) 0; master = new_master (plan_of t); report = None; asked = 0 }

-- the session of the table that a text states
abbrev pub IsOpened : List ℕ → SessionState → Type 0
IsOpened text s = (table : Contents) × StatesMachine text table × (s ≡ new_session table)

-- a start-up that failed begins again
abbrev pub resumed : StartState → StartState
resumed s = if has_failed s.phase then restarted s else s

-- a start-up has ended Ready
abbrev pub is_up : Phase → Bool
is_up Ready = true
is_up Idle = false
is_up (Sent number) = false
is_up (Failed error) = false

-- a master becomes ready if its start-up has ended Ready
abbrev pub ready_with : MasterState → StartState → MasterState
ready_with m s = if is_up s.phase then readied m s.next else m

-- A payload came. The start-up takes it until the master is ready, and the master takes it then.
pub record IsStarting (old : SessionState) (payload : List ℕ) (is_accepted : Bool) (new : SessionState) : Type 0 where
  pub startup : IsStartTaken old.startup payload is_accepted new.startup
  pub rest : new ≡ record old { startup = new.startup; master = ready_with old.master new.startup }

pub record IsCyclic (old : SessionState) (payload : List ℕ) (is_accepted : Bool) (new : SessionState) : Type 0 where
  pub master : IsTaken old.master payload is_accepted new.master
  pub rest : new ≡ record old { master = new.master }

abbrev IsGivenBy : Bool → SessionState → List ℕ → Bool → SessionState → Type 0
IsGivenBy true old payload is_accepted new = IsCyclic old payload is_accepted new
IsGivenBy false old payload is_accepted new = IsStarting old payload is_accepted new

abbrev pub IsGiven : SessionState → List ℕ → Bool → SessionState → Type 0
IsGiven old payload is_accepted new = IsGivenBy old.master.is_ready old payload is_accepted new

-- a variable of the outputs becomes 0; no other changes
abbrev pub zero_set : MasterState → ℕ → MasterState
zero_set m variable = if holds_value 0 (slice_get m.plan.variables variable) then variable_set m variable 0 else m

-- the first n variables, as far as they are outputs
abbrev pub zeros_set : MasterState → ℕ → MasterState
zeros_set m zero = m
zeros_set m (suc n) = zero_set (zeros_set m n) n

-- each variable of the outputs becomes 0
abbrev pub outputs_cleared : MasterState → MasterState
outputs_cleared m = zeros_set m (length m.plan.variables)

-- whether a report says that the inputs of a unit were taken, if it has the unit
abbrev pub unit_taken : ℕ → ReportState → Option Bool
unit_taken unit r = option_and_then (λ index. slice_get r.taken index) (position (λ u. u == unit) r.units)

-- the number of the variable with a name
abbrev pub variable_named : Contents → List ℕ → Option ℕ
variable_named t name = position (λ (v : VariableRow). bytes_eq v.name name) t.variables
