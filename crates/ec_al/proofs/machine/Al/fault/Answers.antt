use Rattle.std.proofs.Common.{rules}
use Rattle.ec_al.proofs.machine.Al.fault.Goals as goal

pub returns-then-eq-clause-state : goal.returns-then-eq-clause-state
returns-then-eq-clause-state c = search rules
