use Rattle.ec_wire.proofs.StartUpTurns.{AreTurns}
use Rattle.ec_wire.proofs.startup.bring_up_paced.Given as goal

abbrev pub invariant-loop : goal.invariant-loop
invariant-loop g l = AreTurns l.initial.startup l.startup (g.W.Wire.state l.initial.wire) (g.W.Wire.state l.wire) l.counter
