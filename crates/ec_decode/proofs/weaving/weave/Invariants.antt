use Rattle.std.proofs.Common.{◌≡◌, ◌++◌, map, string_bytes}
use Rattle.ec_decode.specs.Indented.{woven}
use Rattle.ec_decode.proofs.Cutting.{ahead}
use Rattle.ec_decode.proofs.weaving.weave.Given as goal

abbrev pub invariant-loop-index : goal.invariant-loop-index
invariant-loop-index l = string_bytes l.answer ++ ahead (map string_bytes l.remarks) l.part-items l.index ≡ woven (map string_bytes l.remarks) l.text
