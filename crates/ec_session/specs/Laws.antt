-- What the definitions say together.
use Rattle.std.specs.Prelude.{◌≡◌, ◌+◌, ℕ, List, Option, None, Result}
use Rattle.ec_cycle.specs.Closing.{ReportState}
use Rattle.ec_cycle.specs.Master.{MasterState}
use Rattle.ec_asking.specs.declared.answer.AlStatus.{AlStatus}
use Rattle.ec_wire.specs.declared.error.RunError.{RunError}
use Rattle.ec_wire.specs.declared.error.SocketFault.{SocketFault}
use Rattle.ec_wire.specs.Losing.{IsLossyRun}
use Rattle.ec_wire.specs.Wires.{WireState}
use Rattle.ec_wire.specs.Running.{IsRun}
use Rattle.ec_session.specs.Asking.{ReadsStates, ReadsStatus}
use Rattle.ec_session.specs.Sessions.{SessionState, outputs_cleared}

-- A cycle over a wire uses up a number and changes inputs alone. No cycle is open behind it.
abbrev pub RunsKeepTheRest : Type 0
RunsKeepTheRest =
    (m : MasterState) (w v : WireState) (r : Result ReportState RunError) (after : MasterState) → IsRun m w v r after → after ≡ record m { next = m.next + 1; inputs = after.inputs; cycle = None }

-- The same of a cycle over a wire on which frames may be lost.
abbrev pub LossyRunsKeepTheRest : Type 0
LossyRunsKeepTheRest =
    (m : MasterState) (w v : WireState) (r : Result ReportState RunError) (after : MasterState) → IsLossyRun m w v r after → after ≡ record m { next = m.next + 1; inputs = after.inputs; cycle = None }

-- To read an AL state changes nothing of a session but the count of its questions: no image, no cycle, no report.
abbrev pub StatusReadsKeepTheRest : Type 0
StatusReadsKeepTheRest =
    (slave : ℕ) (s t : SessionState) (w v : WireState) (told : Result (Option AlStatus) SocketFault) → ReadsStatus slave s w t v told → t ≡ record s { asked = t.asked }

-- Nor do many reads.
abbrev pub ReadsKeepTheRest : Type 0
ReadsKeepTheRest =
    (s t : SessionState) (w v : WireState) (told : List (Option AlStatus)) (ended : Result Unit SocketFault) → ReadsStates s w told t v ended → t ≡ record s { asked = t.asked }

-- To set all outputs to 0 changes outputs alone.
abbrev pub ClearingKeepsTheRest : Type 0
ClearingKeepsTheRest = (m : MasterState) → outputs_cleared m ≡ record m { outputs = (outputs_cleared m).outputs }
