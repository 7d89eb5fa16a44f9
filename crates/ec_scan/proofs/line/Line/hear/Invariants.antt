use Rattle.std.proofs.Common.{◌≡◌}
use Rattle.ec_scan.specs.Lines.{Keeps}
use Rattle.ec_scan.proofs.line.Line.hear.Given as goal

abbrev pub invariant-loop : goal.invariant-loop
invariant-loop g l = record {
  number : l.self.number ≡ l.initial.self.number;
  left : l.self.left ≡ l.initial.self.left;
  asked : l.self.asked ≡ l.initial.self.asked;
  kept : Keeps l.initial.self.wire l.self.wire;
}
