-- When what a line expects of a master holds (this project's profile).
use Rattle.std.specs.Prelude.{ℕ, ◌==◌, ◌&&◌, not, Bool, true, false, Option, Some, None, Result, Ok, Err, slice_get}
use Rattle.std.specs.List.{list_all, list_any, zip}
use Rattle.ec_cycle.specs.Closing.{ReportState}
use Rattle.ec_cycle.specs.Master.{MasterState}
use Rattle.ec_link.specs.Image.{number_of}
use Rattle.ec_link.specs.declared.image.Variable.{Variable}
use Rattle.ec_start.specs.declared.error.StartError.{StartError}
use Rattle.ec_start.specs.Errors.{error_number}
use Rattle.ec_text.specs.InputText.{value_of_variable}
use Rattle.ec_script.specs.declared.expectation.Expectation.{Expectation}
use Rattle.ec_script.specs.declared.expectation.Expectation.TheVariants.{Is, Holds, Never, Units, Unit as OneUnit, State as InState, Ready, Failed}
use Rattle.ec_script.specs.declared.value_test.ValueTest.{ValueTest}
use Rattle.ec_script.specs.Tests.{holds}
use Rattle.ec_script.specs.Views.{ViewState}

-- ---- sync units

-- a test of the last report; false without one
abbrev pub of_report : (ReportState → Bool) → Option ReportState → Bool
of_report test None = false
of_report test (Some r) = test r

abbrev pub same : Bool → Bool → Bool
same true b = b
same false b = not b

abbrev pub all_units : Bool → ReportState → Bool
all_units taken r = list_all (same taken) r.taken

abbrev pub is_unit : ℕ → Bool → ReportState → Bool
is_unit u taken r = list_any (λ p. (p.0 == u) && same taken p.1) (zip r.units r.taken)

-- ---- start-ups

abbrev pub is_ready : Option (Result Unit StartError) → Bool
is_ready (Some (Ok done)) = true
is_ready _ = false

abbrev pub is_refusal : Option ℕ → StartError → Bool
is_refusal None error = true
is_refusal (Some number) error = error_number error == number

abbrev pub is_failed : Option ℕ → Option (Result Unit StartError) → Bool
is_failed number (Some (Err error)) = is_refusal number error
is_failed number _ = false

-- ---- values

-- the value of the n-th variable in the process image meets a test; false if there is no such variable
abbrev pub is_tested : ValueTest → MasterState → ℕ → Option Variable → Bool
is_tested test m n None = false
is_tested test m n (Some v) = holds (number_of v) test (value_of_variable m n)

-- ---- whatever is expected

-- a variable by the process image; a master alone sees no state of a slave
abbrev pub is_met : Expectation → ViewState → Bool
is_met (Is v x) view = value_of_variable view.master v == x
is_met (Holds v test) view = is_tested test view.master v (slice_get view.master.plan.variables v)
is_met (Never v) view = false
is_met (Units taken) view = of_report (all_units taken) view.report
is_met (OneUnit u taken) view = of_report (is_unit u taken) view.report
is_met (InState s state code) view = false
is_met Ready view = is_ready view.outcome
is_met (Failed number) view = is_failed number view.outcome
