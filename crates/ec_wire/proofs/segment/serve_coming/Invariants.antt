use Rattle.std.proofs.Common.{◌≡◌, ◌+◌, ℕ, List, length}
use Rattle.ec_wire.specs.Wires.{Carries}
use Rattle.ec_wire.specs.Segments.{AreTreated}
use Rattle.ec_wire.proofs.ServedSlaves.{AreFewer}
use Rattle.ec_wire.proofs.segment.serve_coming.Given as goal

abbrev pub invariant-loop : goal.invariant-loop
invariant-loop g l = record {
  came : (got : List (List ℕ)) × (sent : List (List ℕ)) × Carries (g.W.Wire.state l.initial.wire) (g.W.Wire.state l.wire) sent got
      × AreTreated (g.A.App.may_produce l.initial.app) l.initial.ring got l.ring sent × (length got ≡ l.counter) × (length sent ≡ l.served.answered);
  counts : l.served.answered + l.served.refused ≡ l.counter;
  same : (g.W.Wire.state l.wire).failed ≡ (g.W.Wire.state l.initial.wire).failed;
  later : AreFewer (g.A.App.may_produce l.app) (g.A.App.may_produce l.initial.app);
}
