use Rattle.std.proofs.Common.{◌≡◌, ℕ, List, [], length}
use Rattle.ec_wire.specs.Wires.{Carries}
use Rattle.ec_wire.specs.BringingUp.{AreForeign}
use Rattle.ec_wire.proofs.startup.exchange.Given as goal

abbrev pub invariant-loop : goal.invariant-loop
invariant-loop g l = record {
  came : (got : List (List ℕ)) × Carries (g.W.Wire.state l.initial.wire) (g.W.Wire.state l.wire) [] got × AreForeign l.initial.startup got × (length got ≡ l.counter);
  same : (g.W.Wire.state l.wire).failed ≡ (g.W.Wire.state l.initial.wire).failed;
  kept : l.startup ≡ l.initial.startup;
}
