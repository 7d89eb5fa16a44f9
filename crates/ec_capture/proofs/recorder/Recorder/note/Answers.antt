use Rattle.std.proofs.Common.{rules}
use Rattle.ec_capture.proofs.recorder.Recorder.note.Goals as goal

pub returns-then-not-write_through : goal.returns-then-not-write_through
returns-then-not-write_through g c = search rules
