use Rattle.std.proofs.Common.{◌≡◌, ℕ, List, []}
use Rattle.ec_wire.specs.Wires.{Carries}
use Rattle.ec_wire.proofs.Hearing.{AreStrange}
use Rattle.ec_wire.proofs.asking.hear_answer.Given as goal

abbrev pub invariant-loop : goal.invariant-loop
invariant-loop g l = record {
  heard : (got : List (List ℕ)) × Carries (g.W.Wire.state l.initial.wire) (g.W.Wire.state l.wire) [] got × AreStrange l.question l.count got;
  same : (g.W.Wire.state l.wire).failed ≡ (g.W.Wire.state l.initial.wire).failed;
}
