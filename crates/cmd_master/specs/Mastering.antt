-- What `ecat master` does (this project's profile).
use Rattle.std.specs.Prelude.{◌≡◌, ◌⊎◌, None, Result, length, replicate}
use Rattle.ec_table.specs.Contents.{Contents}
use Rattle.ec_wire.specs.Wires.{WireState, silent}
use Rattle.ec_session.specs.Sessions.{new_session}
use Rattle.ec_console.specs.declared.refusal.Refusal.{Refusal}
use Rattle.ec_console.specs.declared.wanted.Manner.{Manner}
use Rattle.ec_console.specs.Coming.{ComesOut, ComesPart, reading_at}
use Rattle.ec_console.specs.Given.{Given}
use Rattle.ec_console.specs.Printing.{OutputState}
use Rattle.ec_console.specs.Refusals.{IsSocket}
use Rattle.ec_console.specs.Saying.{EndsRun}
use Rattle.ec_console.specs.Stating.{IsNeverRun}
use Rattle.cmd_master.specs.State.{MasteredState}
use Rattle.cmd_master.specs.Taking.{takes_action}
use Rattle.cmd_master.specs.Saying.{SaysLine}

-- a new master of a table over a wire
abbrev pub begun_over : Manner → Contents → WireState → MasteredState
begun_over manner t w = record { session = new_session t; wire = w; manner = manner; states = replicate (length t.slaves) None }

-- whether a master says why a line is bad
abbrev pub manner_in : MasteredState → Manner
manner_in s = s.manner

-- The lines of an input lead a master of a table to another state. All are done, and what they expect holds, or doesn't so many times.
-- Or they are cut short, and what was printed until then stays. Or memory is refused before the first line.
abbrev pub RunsOver : Contents → (begun last : MasteredState) → (input : Given) → (old new : OutputState) → Result Unit Refusal → Type 0
RunsOver t begun last input old new ended =
    EndsRun (λ unmet. ComesOut SaysLine manner_in (reading_at takes_action t) begun input.bytes last unmet old new)
    (ComesPart SaysLine manner_in (reading_at takes_action t) begun input.bytes last old new) input.is_refused old new ended

-- over a socket or a card that was just opened, whose state has no payloads
abbrev pub RunsOnWire : Manner → Contents → (input : Given) → (old new : OutputState) → Result Unit Refusal → Type 0
RunsOnWire manner t input old new ended = (last : MasteredState) × RunsOver t (begun_over manner t (silent 0)) last input old new ended

-- over a socket or a card; or there is none
abbrev pub RunsMachine : Manner → Contents → (input : Given) → (old new : OutputState) → Result Unit Refusal → Type 0
RunsMachine manner t input old new ended = RunsOnWire manner t input old new ended ⊎ IsNeverRun IsSocket (new ≡ old) ended
