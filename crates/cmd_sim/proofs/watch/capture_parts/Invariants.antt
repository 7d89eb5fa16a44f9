use Rattle.ec_capture.specs.Recordings.{Notes}
use Rattle.cmd_sim.specs.CapturedEvents.{captured_parts}
use Rattle.cmd_sim.proofs.watch.capture_parts.Given as goal

-- the frames of the parts so far are noted
abbrev pub invariant-loop-part : goal.invariant-loop-part
invariant-loop-part g l = Notes (captured_parts l.time l.world l.part) l.initial.capture l.capture
