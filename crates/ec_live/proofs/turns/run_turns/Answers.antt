use Rattle.std.proofs.Common.{◌≡◌, ◌∙◌, ap, sym, arith}
use Rattle.std.proofs.lemmas.Bool.{false≢true}
use Rattle.ec_lines.specs.Inputs.{bytes_left}
use Rattle.ec_console.specs.declared.refusal.Refusal.TheVariants as refusal
use Rattle.ec_live.specs.Stages.{LinesState, TurnsEnd}
use Rattle.ec_live.proofs.Running.{come_as, frame_comes, frame_cut, line_comes, line_cut, passed_on}
use Rattle.ec_live.proofs.turns.run_turns.Goals as goal
use Rattle.ec_live.proofs.turns.run_turns.Goals.{in-Frame+in_ok-meet_one-in-Frame, in-Line+in_ok-obey_part-in-Line}

pub returns-in_err-meet_one-in-Frame : goal.returns-in_err-meet_one-in-Frame
returns-in_err-meet_one-in-Frame g c = λ s at.
    let frames = c.args.station.now.frames in
    let left = bytes_left g.R.Read.remaining c.loop.input in
    let trouble = c.in_err-meet_one-in-Frame.field-0.0.0 in
    passed_on (TurnsEnd frames s c.meet_one.new.live left c.loop.output c.loop.lines.unmet) c.from_residual-in_err-meet_one-in-Frame.result (refusal.Socket trouble)
    c.from_residual-in_err-meet_one-in-Frame.ensures.1
    (frame_cut frames c.loop.station.frames s c.loop.live c.meet_one.new.live (g.W.Wire.state c.loop.station.wire) (g.W.Wire.state c.meet_one.new.station.wire) c.loop.lines left c.loop.output trouble
    c.loop.lines.unmet (c.loop.invariant.0 s at) c.in_err-meet_one-in-Frame.ensures.cut)

pub returns-in_err-obey_part-in-Line : goal.returns-in_err-obey_part-in-Line
returns-in_err-obey_part-in-Line g c = λ s at.
    let frames = c.args.station.now.frames in
    let old = bytes_left g.R.Read.remaining c.loop.input in
    let new = bytes_left g.R.Read.remaining c.obey_part.new.input in
    let x = c.in_err-obey_part-in-Line.field-0.0 in
    passed_on (TurnsEnd frames s c.obey_part.new.live new c.obey_part.new.output c.obey_part.new.lines.unmet) c.from_residual-in_err-obey_part-in-Line.result x
    c.from_residual-in_err-obey_part-in-Line.ensures.1
    (line_cut frames c.loop.station.frames s c.loop.live c.obey_part.new.live (g.W.Wire.state c.loop.station.wire) c.loop.lines old new c.loop.output c.obey_part.new.output x c.obey_part.new.lines.unmet
    (c.loop.invariant.0 s at) c.in_err-obey_part-in-Line.ensures.taken c.in_err-obey_part-in-Line.ensures.cut)

pub loop-preserved : goal.loop-preserved
loop-preserved g c =
    let now = c.match-branch-2 in
    let before = c.loop in
    let frames = c.args.station.now.frames in
    let left = bytes_left g.R.Read.remaining before.input in
    let wire = g.W.Wire.state before.station.wire in
    (
      λ s at. elim now.branch [
        in-Frame+in_ok-meet_one-in-Frame w ↦
            come_as frames s w.meet_one.new.live now.live (g.W.Wire.state w.meet_one.new.station.wire) (g.W.Wire.state now.station.wire) before.lines now.lines left (bytes_left g.R.Read.remaining now.input)
            before.output now.output w.meet_one.new.station.frames now.station.frames w.live-is (ap (λ x. g.W.Wire.state x.wire) w.station-is) w.lines-is (ap (bytes_left g.R.Read.remaining) w.input-is) w.output-is
            (ap (λ x. x.frames) w.station-is)
            (frame_comes frames before.station.frames w.meet_one.new.station.frames s before.live w.meet_one.new.live wire (g.W.Wire.state w.meet_one.new.station.wire) before.lines left before.output
            (before.invariant.0 s at) (λ is. false≢true (sym c.if-eq.false ∙ (rw is at c.eq.ensures))) w.in_ok-meet_one-in-Frame.ensures.met)
        | in-Line+in_ok-obey_part-in-Line w ↦
            come_as frames s w.obey_part.new.live now.live wire (g.W.Wire.state now.station.wire) w.obey_part.new.lines now.lines (bytes_left g.R.Read.remaining w.obey_part.new.input)
            (bytes_left g.R.Read.remaining now.input) w.obey_part.new.output now.output before.station.frames now.station.frames w.live-is (ap (λ x. g.W.Wire.state x.wire) w.station-is) w.lines-is
            (ap (bytes_left g.R.Read.remaining) w.input-is) w.output-is (ap (λ x. x.frames) w.station-is)
            (line_comes frames before.station.frames s before.live w.obey_part.new.live wire before.lines w.obey_part.new.lines left (bytes_left g.R.Read.remaining w.obey_part.new.input) before.output
            w.obey_part.new.output (before.invariant.0 s at) w.in_ok-obey_part-in-Line.ensures.obeyed)
      ],
      elim now.branch [
        in-Frame+in_ok-meet_one-in-Frame w ↦
            let same : now.lines.count ≡ before.lines.count = ap (λ (x : LinesState). x.count) w.lines-is in
            omega (arith, before.invariant.1)
        | in-Line+in_ok-obey_part-in-Line w ↦
            let same : now.lines.count ≡ w.obey_part.new.lines.count = ap (λ (x : LinesState). x.count) w.lines-is in
            omega (arith, before.invariant.1, w.in_ok-obey_part-in-Line.ensures.count)
      ],
    )
