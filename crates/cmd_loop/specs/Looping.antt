-- What `ecat loop` prints (this project's profile).
use Rattle.std.specs.Prelude.{◌≡◌, ◌⊎◌, ◌≤◌, ◌<◌, ◌+◌, ◌%◌, ◌^◌, ℕ, List, [], ◌∷◌, ◌++◌, length, true, if◌then◌else◌, None, Some, Result, Ok, Err, codes}
use Rattle.std.specs.List.{flat_map}
use Rattle.ec_table.specs.Contents.{Contents}
use Rattle.ec_link.specs.declared.image.Variable.{Variable}
use Rattle.ec_link.specs.LinkRuns.{is_out}
use Rattle.ec_link.specs.Plan.{PlanState, plan_of}
use Rattle.ec_cycle.specs.Closing.{ReportState}
use Rattle.ec_cycle.specs.Master.{MasterState, cycle_limit, new_master, readied, value_put}
use Rattle.ec_cycle.specs.declared.error.CycleError.TheVariants.{NumbersSpent}
use Rattle.ec_start.specs.declared.error.StartError.{StartError}
use Rattle.ec_start.specs.declared.phase.Phase.TheVariants.{Ready, Failed}
use Rattle.ec_start.specs.Running.{StartState, begun}
use Rattle.ec_start.specs.Feeding.{feeds_of}
use Rattle.ec_bringup.specs.SwitchedOn.{AreSlavesOf}
use Rattle.ec_wire.specs.Wires.{Traffic, WireState, counted}
use Rattle.ec_wire.specs.BringingUp.{IsBroughtUp}
use Rattle.ec_slave.specs.State.{SlaveState}
use Rattle.ec_wire.specs.Running.{IsRun}
use Rattle.ec_wire.specs.declared.error.RunError.{RunError}
use Rattle.ec_wire.specs.declared.error.RunError.TheVariants.{Refused, Wire}
use Rattle.ec_text.specs.PlanText.{newline}
use Rattle.ec_text.specs.InputText.{inputs_text, value_of_variable}
use Rattle.ec_text.specs.ReportText.{report_text}
use Rattle.ec_console.specs.declared.refusal.Refusal.{Refusal}
use Rattle.ec_console.specs.declared.refusal.Refusal.TheVariants.{Memory, Start, Run, Output}
use Rattle.ec_console.specs.Printing.{IsCutOff, IsPrinted, OutputState}
use Rattle.ec_console.specs.Refusals.{IsSocket}

-- ---- lines

abbrev pub ready_line : List ℕ
ready_line = codes "ready" ++ newline

-- the slaves are up, and these are the reports of the cycles that ended
abbrev pub cycles_text : Contents → List ReportState → List ℕ
cycles_text t reports = ready_line ++ flat_map (report_text t.version (plan_of t).parts) reports

-- ---- cycles

-- an output variable becomes a number, cut to its bits
abbrev pub output_put : ℕ → List ℕ → Variable → List ℕ
output_put number image v = if is_out v.direction then value_put image (number % 2 ^ v.bits) (Some v) else image

-- each output variable among these becomes a number, cut to its bits
abbrev pub outputs_put : ℕ → List ℕ → List Variable → List ℕ
outputs_put number image [] = image
outputs_put number image (v ∷ vs) = outputs_put number (output_put number image v) vs

abbrev pub with_outputs : MasterState → ℕ → MasterState
with_outputs m number = record m { outputs = outputs_put number m.outputs m.plan.variables }

-- Cycles are run one after another over a wire, the first with this number. Each sends each output variable as the cycle's number, and
-- gives its report.
abbrev pub AreRun : MasterState → WireState → ℕ → List ReportState → MasterState → WireState → Type 0
AreRun m w number [] last v = (last ≡ m) × (v ≡ w)
AreRun m w number (r ∷ rs) last v =
    (mid : MasterState) × (x : WireState) × IsRun (with_outputs m number) w x (Ok r) mid × AreRun mid x (number + 1) rs last v

-- Slaves of a plan are brought up over a wire, by frames from number 0. `m` is the master that begins cycles then. All its
-- variables are 0.
pub record IsUp (p : PlanState) (before after : WireState) (m : MasterState) : Type 0 where
  pub start : StartState
  pub brought : IsBroughtUp (begun p.slaves (feeds_of p) 0) before start after
  pub ready : start.phase ≡ Ready
  pub master : m ≡ readied (new_master p) start.next

-- the start-up of a plan's slaves over a wire ended by an error
pub record HasNotStarted (p : PlanState) (before after : WireState) (error : StartError) : Type 0 where
  pub start : StartState
  pub brought : IsBroughtUp (begun p.slaves (feeds_of p) 0) before start after
  pub failed : start.phase ≡ Failed error

-- the lines of the first cycles of a master over a wire, at most `cycles`
abbrev pub IsSoFar : ℕ → Contents → MasterState → (before after : WireState) → List ℕ → Type 0
IsSoFar cycles t first before after text =
    (reports : List ReportState) × (last : MasterState) × AreRun first before 1 reports last after × (length reports ≤ cycles) × (text ≡ cycles_text t reports)

-- the lines of all cycles, and behind them each input variable with the value that the last cycle left
abbrev pub IsWhole : ℕ → Contents → MasterState → (before after : WireState) → List ℕ → Type 0
IsWhole cycles t first before after text =
    (reports : List ReportState) × (last : MasterState) × AreRun first before 1 reports last after × (length reports ≡ cycles) × (text ≡ cycles_text t reports ++ inputs_text (value_of_variable last) t)

-- ---- how it ends

-- a cycle can begin, unless the numbers are spent
pub record CanCycle (p : PlanState) (m : MasterState) : Type 0 where
  pub up : m.is_ready ≡ true
  pub none_open : m.cycle ≡ None
  pub variables : m.plan.variables ≡ p.variables

-- A master's run of a cycle over a wire gave no report: a fault of the wire ended it, or no number is left.
abbrev pub IsRunEnd : MasterState → (before after : WireState) → RunError → Type 0
IsRunEnd m before after Wire = (last : MasterState) × IsRun m before after (Err Wire) last
IsRunEnd m before after (Refused error) = (error ≡ NumbersSpent) × (cycle_limit ≤ m.next) × (after ≡ before)

-- the refusals before the slaves are up: memory ran out, and nothing was sent; or the start-up's error
abbrev pub IsStartRefusal : PlanState → (before after : WireState) → Refusal → Type 0
IsStartRefusal p before after Memory = after ≡ before
IsStartRefusal p before after (Start error) = HasNotStarted p before after error
IsStartRefusal p before after _ = ⊥

-- the refusals of the line of a cycle: memory ran out for its report, or the run of the cycle gave none
abbrev pub IsCycleRefusal : MasterState → (before after : WireState) → Refusal → Type 0
IsCycleRefusal m before after Memory = (report : ReportState) × (last : MasterState) × IsRun m before after (Ok report) last
IsCycleRefusal m before after (Run error) = IsRunEnd m before after error
IsCycleRefusal m before after _ = ⊥

-- the lines of fewer cycles than all are printed, and the line of the next one is refused
pub record EndsEarly (cycles : ℕ) (t : Contents) (first : MasterState) (before after : WireState) (old new : OutputState) (refusal : Refusal) : Type 0 where
  pub reports : List ReportState
  pub last : MasterState
  pub between : WireState
  pub run : AreRun first before 1 reports last between
  pub few : length reports < cycles
  pub next : IsCycleRefusal (with_outputs last (length reports + 1)) between after refusal
  pub printed : IsPrinted old new (cycles_text t reports)

-- the lines of all cycles are printed, and there is no memory for those of the input variables
pub record EndsUnprinted (cycles : ℕ) (t : Contents) (first : MasterState) (before after : WireState) (old new : OutputState) (refusal : Refusal) : Type 0 where
  pub reports : List ReportState
  pub last : MasterState
  pub run : AreRun first before 1 reports last after
  pub all : length reports ≡ cycles
  pub memory : refusal ≡ Memory
  pub printed : IsPrinted old new (cycles_text t reports)

-- a write was refused, and a first part of these lines is printed
pub record EndsUnwritten (Lines : List ℕ → Type 0) (old new : OutputState) (refusal : Refusal) : Type 0 where
  pub output : refusal ≡ Output
  pub text : List ℕ
  pub lines : Lines text
  pub cut : IsCutOff old new text

-- The cycles of a master whose slaves are up, by what the wire and the output are before and after. All is printed; or
-- the lines until then.
abbrev pub RunsCycles : ℕ → Contents → MasterState → (before after : WireState) → (old new : OutputState) → Result Unit Refusal → Type 0
RunsCycles cycles t first before after old new (Ok done) = (text : List ℕ) × IsWhole cycles t first before after text × IsPrinted old new text
RunsCycles cycles t first before after old new (Err refusal) =
    EndsEarly cycles t first before after old new refusal
    ⊎ (EndsUnprinted cycles t first before after old new refusal
    ⊎ (EndsUnwritten (IsSoFar cycles t first before after) old new refusal
    ⊎ EndsUnwritten (IsWhole cycles t first before after) old new refusal))

-- The cycles of a table over a wire: its slaves are brought up and the cycles are run. Or they don't come up, and nothing is
-- printed.
abbrev pub Loops : ℕ → Contents → (before after : WireState) → (old new : OutputState) → Result Unit Refusal → Type 0
Loops cycles t before after old new ended =
    ((first : MasterState) × (between : WireState) × IsUp (plan_of t) before between first × RunsCycles cycles t first between after old new ended)
    ⊎ ((refusal : Refusal) × (ended ≡ Err refusal) × IsStartRefusal (plan_of t) before after refusal × (new ≡ old))

-- ---- over sockets

-- The cycles run over two sockets of this process, with the table's slaves at one of them, just switched on. A socket's state has no
-- payload, so it may have carried any. But the loopback counts the slaves of the wire, payloads sent and received, and calls that were
-- faults, as the wire does.
pub record LoopsBetween (cycles : ℕ) (t : Contents) (old new : OutputState) (before after : Traffic) (ended : Result Unit Refusal) : Type 0 where
  pub slaves : List SlaveState
  pub are : AreSlavesOf t slaves
  pub opened : after.slaves ≡ length slaves
  pub runs : Loops cycles t (counted before) (counted after) old new ended

-- the run is refused, and nothing is printed or sent
abbrev pub IsNeverRun : (Refusal → Type 0) → (old new : OutputState) → (before after : Traffic) → Result Unit Refusal → Type 0
IsNeverRun Refuses old new before after ended =
    (refusal : Refusal) × (ended ≡ Err refusal) × Refuses refusal × (new ≡ old) × (after ≡ before)

-- there is no memory for the slaves, or there are no sockets
abbrev pub IsUnbound : Refusal → Type 0
IsUnbound refusal = (refusal ≡ Memory) ⊎ IsSocket refusal

-- the cycles of a table; or there is no memory for its slaves, or there are no sockets
abbrev pub LoopsOnSockets : ℕ → Contents → (old new : OutputState) → (before after : Traffic) → Result Unit Refusal → Type 0
LoopsOnSockets cycles t old new before after ended = LoopsBetween cycles t old new before after ended ⊎ IsNeverRun IsUnbound old new before after ended
