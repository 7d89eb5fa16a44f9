use Rattle.std.proofs.Common.{string_bytes}
use Rattle.ec_decode.proofs.Encoding.{Encoded}
use Rattle.ec_decode.proofs.text.encode_text.Given as goal

abbrev pub invariant-loop-place : goal.invariant-loop-place
invariant-loop-place l = Encoded l.text l.line-items l.place l.reader (string_bytes l.answer)
