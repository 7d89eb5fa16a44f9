-- What the definitions say together: when a cycle is run, and what reasons change (this project's profile).
use Rattle.std.specs.Prelude.{◌≡◌, ◌&&◌, ℕ, List, Bool, is_none, nat_lt}
use Rattle.ec_table.specs.Contents.{Contents}
use Rattle.ec_cycle.specs.Master.{cycle_limit}
use Rattle.ec_wire.specs.Wires.{WireState}
use Rattle.ec_session.specs.Sessions.{SessionState, is_up}
use Rattle.ec_session.specs.Wired.{run_refusal}
use Rattle.ec_script.specs.declared.line.Step.{Step}
use Rattle.ec_script.specs.declared.line.Task.{Task}
use Rattle.ec_console.specs.declared.wanted.Manner.{Manner}
use Rattle.ec_console.specs.Coming.{ComingOnlyAdds}
use Rattle.ec_console.specs.Reasons.{OnlyAdds, unexplained}
use Rattle.ec_console.specs.Saying.{Says}
use Rattle.cmd_master.specs.State.{MasteredState}
use Rattle.cmd_master.specs.Saying.{SaysLine}
use Rattle.cmd_master.specs.Mastering.{begun_over, manner_in}

-- ---- cycles

-- the last start-up ended Ready, and a number is left
abbrev pub can_cycle : SessionState → Bool
can_cycle s = is_up s.startup.phase && nat_lt s.master.next cycle_limit

-- Behind lines of a new master, a cycle is run exactly if this holds.
abbrev pub CyclesCanRun : Type 0
CyclesCanRun = (manner : Manner) (t : Contents) (w : WireState) (tasks : List Task) (s : MasteredState) (printed : List ℕ) (unmet : ℕ) → Says SaysLine (begun_over manner t w) tasks s printed unmet
    → is_none (run_refusal s.session) ≡ can_cycle s.session

-- ---- reasons

-- a master that prints no reasons
abbrev pub untold : MasteredState → MasteredState
untold s = record s { manner = unexplained s.manner }

-- what a line does to it
abbrev pub SaysUntold : MasteredState → Step → MasteredState → List ℕ → ℕ → Type 0
SaysUntold s line t printed unmet = SaysLine (untold s) line (untold t) printed unmet

-- With reasons, lines leave the session and its wire as without them, and are unmet as often. They print the same but for the reasons. So
-- do lines that come, bad ones among them.
abbrev pub ReasonsOnlyAdd : Type 0
ReasonsOnlyAdd = OnlyAdds SaysLine SaysUntold × ComingOnlyAdds SaysLine SaysUntold manner_in
