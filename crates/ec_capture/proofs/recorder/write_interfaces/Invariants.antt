use Rattle.std.proofs.Common.{take}
use Rattle.std.specs.Io.KnownBytes.{Appends}
use Rattle.ec_capture.proofs.Named.{named}
use Rattle.ec_capture.proofs.recorder.write_interfaces.Given as goal

-- the interfaces so far are written
abbrev pub invariant-loop-name : goal.invariant-loop-name
invariant-loop-name g l = Appends (g.W.Write.contents l.initial.file) (g.W.Write.contents l.file) (named g.S.AsStr.text (take l.name-index l.names))
