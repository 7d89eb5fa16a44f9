-- What an action does to a master over a wire, and its output (this project's profile). `ec_session` defines a start-up and a cycle over
-- a wire, and `ec_cycle` how a variable is set.
use Rattle.std.specs.Prelude.{ℕ, zero, suc, ◌≡◌, ◌%◌, ◌==◌, ◌&&◌, length, slice_get, Bool, true, false, is_none, Option, Some, None, Result, Ok, Err}
use Rattle.ec_al.specs.declared.state.State.{State}
use Rattle.ec_al.specs.States.{state_number}
use Rattle.ec_start.specs.Running.{outcome_of}
use Rattle.ec_cycle.specs.Closing.{ReportState}
use Rattle.ec_cycle.specs.Master.{holds_value, variable_set}
use Rattle.ec_wire.specs.declared.error.RunError.{RunError}
use Rattle.ec_wire.specs.declared.error.RunError.TheVariants.{Refused, Wire}
use Rattle.ec_wire.specs.declared.error.SocketFault.{SocketFault}
use Rattle.ec_asking.specs.declared.answer.AlStatus.{AlStatus}
use Rattle.ec_session.specs.Asking.{ReadsStates, ReadsStatus, Stops, cleared}
use Rattle.ec_session.specs.Sessions.{SessionState}
use Rattle.ec_session.specs.Wired.{LosesAndCycles, Starts, run_refusal, with_number_used}
use Rattle.ec_script.specs.declared.expectation.Expectation.{Expectation}
use Rattle.ec_script.specs.declared.expectation.Expectation.TheVariants as expects
use Rattle.ec_script.specs.declared.line.LineAction.{LineAction}
use Rattle.ec_script.specs.declared.line.LineAction.TheVariants.{Set, Never, Expect, Ready, Cycle, Within, Show, ShowVariable, Report, States, Stop}
use Rattle.ec_script.specs.declared.output.LineOutput.{LineOutput}
use Rattle.ec_script.specs.declared.output.LineOutput.TheVariants as output
use Rattle.ec_script.specs.Expecting.{is_met}
use Rattle.ec_script.specs.Outputs.{is_done, is_unmet, output_if}
use Rattle.ec_text.specs.InputText.{value_of_variable}
use Rattle.ec_script.specs.Views.{ViewState}
use Rattle.cmd_master.specs.State.{MasteredState}

-- what lines see of a session
abbrev pub view_of : SessionState → ViewState
view_of s = record { outcome = outcome_of s.startup.phase; report = s.report; master = s.master; byte = None }

-- nothing changes, and this is the output
pub record Tells (s t : MasteredState) (what said : LineOutput) : Type 0 where
  pub same : t ≡ s
  pub is : said ≡ what

-- the session and the wire may change, and nothing else
abbrev pub KeepsRest : MasteredState → MasteredState → Type 0
KeepsRest s t = (t.manner ≡ s.manner) × (t.states ≡ s.states)

-- all outputs become 0, and a start-up is run over the wire
pub record StartsUp (s t : MasteredState) (said : LineOutput) : Type 0 where
  pub starts : Starts (cleared s.session) s.wire t.session t.wire
  pub rest : KeepsRest s t
  pub is : said ≡ output.Ended

-- the output of a cycle: its report, or that the wire had a fault, or that none could be run
abbrev pub output_of_run : Result Unit RunError → LineOutput
output_of_run (Ok done) = output.Report
output_of_run (Err Wire) = output.Fault
output_of_run (Err (Refused error)) = output.No

-- A cycle is run over the wire, on which frames may be lost. After a fault of the wire only its number is used up.
pub record RunsCycle (s t : MasteredState) (said : LineOutput) : Type 0 where
  pub result : Result Unit RunError
  pub cycles : LosesAndCycles s.session s.wire t.session t.wire result
  pub rest : KeepsRest s t
  pub is : said ≡ output_of_run result
  pub untaken : said ≡ output.Fault → t.session ≡ with_number_used s.session

-- the output of `stop`: nothing, or that the wire had a fault, or that no cycle could be run
abbrev pub output_of_stop : Result Unit RunError → LineOutput
output_of_stop (Ok done) = output.Nothing
output_of_stop (Err Wire) = output.Fault
output_of_stop (Err (Refused error)) = output.No

-- the machine is stopped over the wire
pub record StopsMachine (s t : MasteredState) (said : LineOutput) : Type 0 where
  pub result : Result Unit RunError
  pub stops : Stops s.session s.wire t.session t.wire result
  pub rest : KeepsRest s t
  pub is : said ≡ output_of_stop result

-- the output of `states`: what was read, or that the wire had a fault
abbrev pub output_of_read : Result Unit SocketFault → LineOutput
output_of_read (Ok done) = output.States
output_of_read (Err fault) = output.Fault

-- the AL states of all slaves are read over the wire
pub record ReadsAll (s t : MasteredState) (said : LineOutput) : Type 0 where
  pub result : Result Unit SocketFault
  pub count : length t.states ≡ length s.states
  pub reads : ReadsStates s.session s.wire t.states t.session t.wire result
  pub manner : t.manner ≡ s.manner
  pub is : said ≡ output_of_read result

abbrev pub has_code : Option ℕ → ℕ → Bool
has_code None shown = true
has_code (Some code) shown = shown == code

-- a slave said that it is in a state, and this code if one is given
abbrev pub is_in_state : State → Option ℕ → Result (Option AlStatus) SocketFault → Bool
is_in_state state code (Ok (Some told)) = (told.word % 16 == state_number state) && has_code code told.code
is_in_state state code _ = false

-- the AL state of a slave is read over the wire, and compared
pub record ReadsOne (slave : ℕ) (state : State) (code : Option ℕ) (s t : MasteredState) (said : LineOutput) : Type 0 where
  pub told : Result (Option AlStatus) SocketFault
  pub reads : ReadsStatus slave s.session s.wire t.session t.wire told
  pub rest : KeepsRest s t
  pub is : said ≡ output_if (is_in_state state code told)

-- a variable becomes a value
pub record Sets (variable value : ℕ) (s t : MasteredState) (said : LineOutput) : Type 0 where
  pub session : t ≡ record s { session = record s.session { master = variable_set s.session.master variable value } }
  pub is : said ≡ output.Nothing

abbrev pub Either : Bool → Type 0 → Type 0 → Type 0
Either true x y = x
Either false x y = y

-- the output of `report`: the last report, or `No` before the first one
abbrev pub last_report : Option ReportState → LineOutput
last_report None = output.No
last_report (Some report) = output.Report

-- What is expected is looked at: an AL state is read, and all else is there.
abbrev pub Looks : Expectation → MasteredState → MasteredState → LineOutput → Type 0
Looks (expects.State slave state code) s t said = ReadsOne slave state code s t said
Looks e s t said = Tells s t (output_if (is_met e (view_of s.session))) said

-- a cycle, if one can be run
abbrev pub RunsIf : MasteredState → MasteredState → LineOutput → Type 0
RunsIf s t said = Either (is_none (run_refusal s.session)) (RunsCycle s t said) (Tells s t output.No said)

-- a cycle, and what follows it; one that isn't done ends the line, whose expectation isn't met then
pub record CyclesOn (rest : MasteredState → MasteredState → LineOutput → Type 0) (s t : MasteredState) (said : LineOutput) : Type 0 where
  pub mid : MasteredState
  pub ran : LineOutput
  pub cycle : RunsIf s mid ran
  pub goes_on : Either (is_done ran) (rest mid t said) (Tells mid t output.Unmet said)

-- what is expected is looked at, and what follows if it isn't so
pub record LooksFirst (e : Expectation) (rest : MasteredState → MasteredState → LineOutput → Type 0) (s t : MasteredState) (said : LineOutput) : Type 0 where
  pub mid : MasteredState
  pub told : LineOutput
  pub looks : Looks e s mid told
  pub goes_on : Either (is_unmet told) (rest mid t said) (Tells mid t told said)

-- at most this many cycles; what is expected is looked at before the first and behind each
unfoldable pub Waits : ℕ → Expectation → MasteredState → MasteredState → LineOutput → Type 0
Waits zero e s t said = Looks e s t said
Waits (suc n) e s t said = LooksFirst e (CyclesOn (Waits n e)) s t said

-- What an action does, and its output. An action that can't be done has the output `No` and changes nothing.
abbrev pub Does : LineAction → MasteredState → MasteredState → LineOutput → Type 0
Does (Set v x) s t said = Either (holds_value x (slice_get s.session.master.plan.variables v)) (Sets v x s t said) (Tells s t output.No said)
Does (Never v) s t said = Tells s t output.No said
Does (Expect e) s t said = Looks e s t said
Does (Within n e) s t said = Waits n e s t said
Does Ready s t said = StartsUp s t said
Does Cycle s t said = RunsIf s t said
Does States s t said = ReadsAll s t said
Does Stop s t said = Either (is_none (run_refusal s.session)) (StopsMachine s t said) (Tells s t output.No said)
Does Show s t said = Tells s t output.Values said
Does (ShowVariable v) s t said = Tells s t (output.Value v (value_of_variable s.session.master v)) said
Does Report s t said = Tells s t (last_report s.session.report) said
Does _ s t said = Tells s t output.No said
