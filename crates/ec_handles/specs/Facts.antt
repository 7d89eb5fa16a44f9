-- What a program in C can know of a master.
use Rattle.std.specs.Prelude.{◌≡◌, ◌≤◌, ◌+◌, ◌-◌, ◌^◌, ◌%◌, ◌==◌, ◌||◌, ℕ, Bool, true, false, List, [], Option, None, Some, if◌then◌else◌, length, min, take, get_or, slice_get, is_some, nat_le, nat_lt, option_and_then}
use Rattle.ec_cycle.specs.Closing.{ReportState}
use Rattle.ec_cycle.specs.Master.{value_at}
use Rattle.ec_link.specs.declared.image.Variable.{Variable}
use Rattle.ec_link.specs.declared.plan.ExpectedCounters.{ExpectedCounters}
use Rattle.ec_link.specs.declared.plan.ExpectedCounters.TheVariants.{Lrw, Split}
use Rattle.ec_link.specs.LinkRuns.{is_out}
use Rattle.ec_start.specs.Errors.{error_name, error_number, error_values}
use Rattle.ec_start.specs.declared.error.StartError.{StartError}
use Rattle.ec_table.specs.Contents.{Contents}
use Rattle.ec_table.specs.declared.rows.VariableRow.{VariableRow}
use Rattle.ec_handles.specs.Calling.{counted}
use Rattle.ec_handles.specs.declared.done.Done.{Done}
use Rattle.ec_handles.specs.declared.done.VariableValue.{VariableValue}
use Rattle.ec_handles.specs.declared.facts.PartCounters.{PartCounters}
use Rattle.ec_handles.specs.declared.facts.Placed.{Placed}
use Rattle.ec_handles.specs.declared.held.HeldMaster.{HeldMaster}

-- ---- why the start-up failed

abbrev pub failure_values : Option StartError → List ℕ
failure_values None = []
failure_values (Some error) = error_values error

abbrev pub failure_name : Option StartError → List ℕ
failure_name None = []
failure_name (Some error) = error_name error

abbrev pub failure_result : Option StartError → Done
failure_result None = counted false 0
failure_result (Some error) = record { number = error_number error; is_done = true; count = length (error_values error) }

-- the failure, and as many of its values as there is room for
pub record ReturnsFailure (failure : Option StartError) (room : List ℕ) (done : Done) (shown : List ℕ) : Type 0 where
  pub told : done ≡ failure_result failure
  pub values : take (min done.count (length room)) shown ≡ take (min done.count (length room)) (failure_values failure)

-- It is explained in words, 511 bytes at most; if they don't fit, the room stays.
pub record Explains (failure : Option StartError) (room : List ℕ) (done : Done) (shown : List ℕ) : Type 0 where
  pub none : failure ≡ None → (done ≡ counted false 0) × (shown ≡ room)
  pub few : done.count ≤ 511
  pub short : done.is_done ≡ false → shown ≡ room

-- ---- variables

abbrev pub place_result : Option Variable → Placed
place_result None = record { is_there = false; is_output = false; is_signed = false; bits = 0; from = 0 }
place_result (Some v) = record { is_there = true; is_output = is_out v.direction; is_signed = v.signed; bits = v.bits; from = v.from }

abbrev pub name_of : Option VariableRow → List ℕ
name_of None = []
name_of (Some row) = row.name

-- the name of a variable, of no bytes if there is no such variable
abbrev pub name_at : Contents → ℕ → List ℕ
name_at t variable = name_of (slice_get t.variables variable)

-- a signed number of 1 to 63 bits, in two's complement of 64 bits: the highest bit is copied into those above it
abbrev pub extended : (bits value : ℕ) → ℕ
extended bits value =
    if (bits == 0) || (nat_le 64 bits || nat_lt value (2 ^ (bits - 1))) then value else (value + (2 ^ 64 - 2 ^ bits)) % 2 ^ 64

abbrev pub signed : Bool → (bits value : ℕ) → ℕ
signed true bits value = extended bits value
signed false bits value = value

-- a variable's value with its sign; 0 if there is no such variable
abbrev pub signed_at : HeldMaster → Option Variable → ℕ
signed_at h None = 0
signed_at h (Some v) = signed v.signed v.bits (value_at h.session.master (Some v))

pub record GetsSigned (h : HeldMaster) (variable : ℕ) (read : VariableValue) : Type 0 where
  pub there : read.is_there ≡ is_some (slice_get h.session.master.plan.variables variable)
  pub value : read.value ≡ signed_at h (slice_get h.session.master.plan.variables variable)

-- ---- the last report

-- the working counters of a part; none if it was missing or isn't there
abbrev pub counters_in : ReportState → ℕ → Option ExpectedCounters
counters_in r part = get_or r.counters part None

abbrev pub counters_of : HeldMaster → ℕ → Option ExpectedCounters
counters_of h part = option_and_then (λ (r : ReportState). counters_in r part) h.session.report

abbrev pub counters_result : Option ExpectedCounters → PartCounters
counters_result None = record { count = 0; first = 0; second = 0 }
counters_result (Some (Lrw counter)) = record { count = 1; first = counter; second = 0 }
counters_result (Some (Split write read)) = record { count = 2; first = write; second = read }
