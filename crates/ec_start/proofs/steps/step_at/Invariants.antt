use Rattle.ec_start.specs.Held.{IsAtStep}
use Rattle.ec_start.proofs.steps.step_at.Given as goal

abbrev pub invariant-loop : goal.invariant-loop
invariant-loop l = IsAtStep l.slaves l.counter l.step
