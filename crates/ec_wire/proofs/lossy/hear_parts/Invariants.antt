use Rattle.std.proofs.Common.{◌≡◌, ℕ, List, [], length}
use Rattle.ec_wire.specs.Wires.{Carries}
use Rattle.ec_wire.specs.Running.{AreTaken}
use Rattle.ec_wire.proofs.lossy.hear_parts.Given as goal

abbrev pub invariant-loop : goal.invariant-loop
invariant-loop g l = record {
  heard : (got : List (List ℕ)) × Carries (g.W.Wire.state l.initial.wire) (g.W.Wire.state l.wire) [] got × AreTaken l.initial.master got l.master × (length got ≡ l.counter);
  same : (g.W.Wire.state l.wire).failed ≡ (g.W.Wire.state l.initial.wire).failed;
}
