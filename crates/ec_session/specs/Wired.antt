-- What a session does over a wire. `ec_wire` defines a start-up and a cycle over one.
use Rattle.std.specs.Prelude.{◌≡◌, ◌+◌, max, if◌then◌else◌, Option, Some, Result, Ok, Err}
use Rattle.ec_start.specs.Running.{StartState, begun}
use Rattle.ec_start.specs.Feeding.{feeds_of}
use Rattle.ec_cycle.specs.Closing.{ReportState}
use Rattle.ec_cycle.specs.Master.{MasterState, begin_refusal}
use Rattle.ec_cycle.specs.declared.error.CycleError.{CycleError}
use Rattle.ec_cycle.specs.declared.error.CycleError.TheVariants.{NotReady}
use Rattle.ec_wire.specs.declared.error.RunError.{RunError}
use Rattle.ec_wire.specs.Wires.{WireState}
use Rattle.ec_wire.specs.BringingUp.{IsBroughtUp}
use Rattle.ec_wire.specs.ComingUp.{ComesUpOver}
use Rattle.ec_wire.specs.Losing.{IsLossyRun}
use Rattle.ec_wire.specs.Running.{IsRun}
use Rattle.ec_session.specs.Sessions.{SessionState, is_up, ready_with}

-- ---- start-ups

-- A start-up is made from its beginning, by frames whose numbers neither the last start-up nor a cycle has used.
abbrev pub start_again : SessionState → StartState
start_again s = begun s.master.plan.slaves (feeds_of s.master.plan) (max s.startup.next s.master.next)

-- if it ended Ready, the master can begin cycles
abbrev pub with_start : SessionState → StartState → SessionState
with_start s start = record s { startup = start; master = ready_with s.master start }

pub record Starts (s : SessionState) (w : WireState) (t : SessionState) (v : WireState) : Type 0 where
  pub start : StartState
  pub brought : IsBroughtUp (start_again s) w start v
  pub up : ComesUpOver (start_again s) start w v
  pub is : t ≡ with_start s start

-- ---- cycles

-- why no cycle can be run: the last start-up didn't end Ready, or the master can't begin one
abbrev pub run_refusal : SessionState → Option CycleError
run_refusal s = if is_up s.startup.phase then begin_refusal s.master else Some NotReady

-- the report is kept until the next one
abbrev pub report_behind : Option ReportState → Result ReportState RunError → Option ReportState
report_behind kept (Ok report) = Some report
report_behind kept (Err error) = kept

abbrev pub with_run : SessionState → Result ReportState RunError → MasterState → SessionState
with_run s ran m = record s { master = m; report = report_behind s.report ran }

abbrev pub without_report : Result ReportState RunError → Result Unit RunError
without_report (Ok report) = Ok tt
without_report (Err error) = Err error

pub record Cycles (s : SessionState) (w : WireState) (t : SessionState) (v : WireState) (answer : Result Unit RunError) : Type 0 where
  pub ended : Result ReportState RunError
  pub after : MasterState
  pub run : IsRun s.master w v ended after
  pub is : t ≡ with_run s ended after
  pub answers : answer ≡ without_report ended

-- The same over a wire on which frames may be lost.
pub record LosesAndCycles (s : SessionState) (w : WireState) (t : SessionState) (v : WireState) (answer : Result Unit RunError) : Type 0 where
  pub ended : Result ReportState RunError
  pub after : MasterState
  pub run : IsLossyRun s.master w v ended after
  pub is : t ≡ with_run s ended after
  pub answers : answer ≡ without_report ended

-- After a fault of the wire: only the number of a cycle is used up.
abbrev pub with_number_used : SessionState → SessionState
with_number_used s = record s { master = record s.master { next = s.master.next + 1 } }
