use Rattle.ec_coe.proofs.Assigning.{Assigned}
use Rattle.ec_coe.proofs.assignment.assign_all.Given as goal

abbrev pub invariant-loop-k : goal.invariant-loop-k
invariant-loop-k l = Assigned l.slots l.pdos l.k
