use Rattle.std.proofs.Common.{rules, arith}
use Rattle.std.proofs.lemmas.Grind.{common_steps}
use Rattle.ec_ring.proofs.ring.RingHandler.handle.Goals as goal

pub returns-clause-datagram : goal.returns-clause-datagram
returns-clause-datagram c = search rules

pub returns-clause-state : goal.returns-clause-state
returns-clause-state c = grind (arith, common_steps)
