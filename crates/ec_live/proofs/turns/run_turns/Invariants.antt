use Rattle.std.proofs.Common.{◌≤◌}
use Rattle.ec_lines.specs.Inputs.{bytes_left}
use Rattle.ec_live.specs.Living.{RunState}
use Rattle.ec_live.specs.Stages.{HasCome, IsAt}
use Rattle.ec_live.proofs.turns.run_turns.Given as goal

abbrev pub invariant-loop : goal.invariant-loop
invariant-loop g l =
    ((s : RunState) → IsAt s l.fn.live (g.W.Wire.state l.fn.station.wire) l.fn.lines (bytes_left g.R.Read.remaining l.fn.input) l.fn.output
    → HasCome l.fn.station.frames s l.live (g.W.Wire.state l.station.wire) l.lines (bytes_left g.R.Read.remaining l.input) l.output l.station.frames)
    × (l.lines.count ≤ l.counter)
