use Rattle.std.proofs.Common.{◌≤◌, length, take}
use Rattle.std.specs.Io.KnownBytes.{Appends}
use Rattle.ec_capture.proofs.writing.write_bytes.Given as goal

-- the first part of the bytes that is written
abbrev pub invariant-loop : goal.invariant-loop
invariant-loop g l = record {
  part : Appends (g.W.Write.contents l.initial.file) (g.W.Write.contents l.file) (take l.written l.bytes);
  within : l.written ≤ length l.bytes;
}
