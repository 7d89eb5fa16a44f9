use Rattle.std.proofs.Common.{take}
use Rattle.std.specs.Io.KnownBytes.{Appends}
use Rattle.std.specs.List.{flat_map}
use Rattle.ec_capture.specs.Blocks.{number}
use Rattle.ec_capture.proofs.blocks.write_numbers.Given as goal

-- the numbers so far are written
abbrev pub invariant-loop-number : goal.invariant-loop-number
invariant-loop-number g l = Appends (g.W.Write.contents l.initial.file) (g.W.Write.contents l.file) (flat_map number (take l.number-index l.numbers))
