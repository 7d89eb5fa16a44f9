use Rattle.std.proofs.Common.{string_bytes}
use Rattle.ec_decode.proofs.LinesAdded.{AreAdded}
use Rattle.ec_decode.proofs.text.add_lines.Given as goal

abbrev pub invariant-loop-line : goal.invariant-loop-line
invariant-loop-line l = AreAdded (λ x. x.now) l.lines l.line-index (string_bytes l.initial.text) (string_bytes l.text)
