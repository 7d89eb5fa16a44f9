use Rattle.ec_bringup.specs.BringUp.{rising}
use Rattle.ec_bringup.proofs.StartUp.BringUp.{AreTurns}
use Rattle.ec_bringup.proofs.turns.make_turns.Given as goal

abbrev pub invariant-loop : goal.invariant-loop
invariant-loop l = AreTurns (rising l.initial.startup l.initial.ring) l.startup l.ring l.counter
